pub mod Told
pub mod Load
pub mod Make
pub mod Rest
