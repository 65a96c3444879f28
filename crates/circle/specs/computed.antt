pub mod Kind
pub mod Step
pub mod Stepper
pub mod Count
pub mod Charge
pub mod Asked
