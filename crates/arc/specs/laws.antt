pub mod Centre
pub mod Arc
pub mod Step
pub mod Work
pub mod Stepper
pub mod Way
pub mod Charge
