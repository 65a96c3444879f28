pub mod Seek
pub mod Search
