pub mod Operations
pub mod Layer
pub mod Shares
pub mod Lawfulness
