pub mod Bench
pub mod Calls
pub mod Run
