pub mod Rules
pub mod Levels
pub mod Outcomes
pub mod Reloads
pub mod Same
