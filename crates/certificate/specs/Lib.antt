pub mod Complements
pub mod Runs
pub mod Faults
