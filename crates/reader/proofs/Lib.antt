pub mod Streaming
pub mod Fieldings
pub mod LittleEndians
