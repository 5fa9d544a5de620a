pub mod Spans
pub mod Blocks
pub mod Marked
