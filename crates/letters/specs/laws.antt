pub mod Scan
pub mod Letter
pub mod Sets
pub mod Put
