pub mod Scan
pub mod Found
pub mod Put
