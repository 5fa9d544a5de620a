mod Commands
mod Keys
mod Lines
mod Spelled
mod Widths
