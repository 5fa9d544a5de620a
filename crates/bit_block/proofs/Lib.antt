pub mod Bits
pub mod Counting
pub mod Masks
pub mod Leasts
pub mod Places
pub mod Words
pub mod Ranks
pub mod Later
