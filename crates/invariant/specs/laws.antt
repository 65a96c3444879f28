pub mod Make
pub mod Load
pub mod Run
pub mod Calls
