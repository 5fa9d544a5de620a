pub mod Streams
pub mod Reads
pub mod Fields
pub mod LittleEndian
