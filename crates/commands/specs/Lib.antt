pub mod Commands
pub mod Lines
pub mod Operands
pub mod Options
pub mod Verbs
