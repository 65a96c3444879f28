pub mod Ticks
pub mod Pass
pub mod Sums
pub mod Ahead
