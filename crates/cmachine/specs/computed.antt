pub mod Looks
pub mod Texts
