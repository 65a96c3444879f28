pub mod Check
pub mod Job
pub mod Listing
