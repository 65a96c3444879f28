pub mod Work
pub mod Rest
pub mod Asked
pub mod Sound
