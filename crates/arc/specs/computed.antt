pub mod Arc
pub mod Centre
pub mod Charge
pub mod Stepper
