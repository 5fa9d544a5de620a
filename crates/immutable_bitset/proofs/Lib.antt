mod Places
pub mod Stages
pub mod Restored
pub mod Loading
