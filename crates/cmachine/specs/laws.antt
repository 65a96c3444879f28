pub mod Looks
pub mod Texts
pub mod Again
pub mod Width
