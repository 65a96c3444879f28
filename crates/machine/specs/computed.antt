pub mod Asked
pub mod Calls
pub mod Machine
pub mod Run
