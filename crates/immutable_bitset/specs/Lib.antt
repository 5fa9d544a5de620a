pub mod Refusals
pub mod Fillings
pub mod Images
pub mod Loads
