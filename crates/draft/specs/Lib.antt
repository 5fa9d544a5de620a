pub mod Drafts
pub mod Refusals
pub mod Puts
