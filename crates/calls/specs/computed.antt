pub mod Asked
pub mod Calls
