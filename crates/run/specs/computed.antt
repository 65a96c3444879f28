pub mod Ending
pub mod Gap
pub mod Run
pub mod Sound
