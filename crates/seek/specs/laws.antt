pub mod Search
pub mod Finish
pub mod Seek
pub mod Bytes
pub mod Stands
pub mod Listed
