pub mod Told
pub mod Number
pub mod Long
pub mod Right
pub mod Inverse
