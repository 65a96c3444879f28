pub mod Line
pub mod Register
pub mod Stepper
