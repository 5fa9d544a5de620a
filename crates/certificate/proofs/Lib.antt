pub mod Maximal
pub mod Counted
pub mod Marks
pub mod Faulted
