pub mod Counts
pub mod Read
pub mod Keeps
