pub mod Requests
pub mod Puts
pub mod Headers
pub mod Lengths
pub mod Imaging
pub mod Laying
pub mod Bodies
pub mod BodyWords
