pub mod Sound
pub mod Cycle
pub mod Charge
pub mod Keep
pub mod Rest
pub mod Left
