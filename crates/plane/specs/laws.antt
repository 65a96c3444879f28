pub mod Point
pub mod Pulse
pub mod Byte
pub mod Travel
pub mod Fits
