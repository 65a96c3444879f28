pub mod Scan
pub mod Meaning
