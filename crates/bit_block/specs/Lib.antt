pub mod Bit
pub mod Ranges
pub mod Widths
pub mod Raised
pub mod Onward
