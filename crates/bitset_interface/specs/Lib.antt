pub mod Source
pub mod Lex
pub mod Spread
pub mod Refusals
