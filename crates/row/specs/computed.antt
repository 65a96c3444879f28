pub mod Buffer
pub mod Long
pub mod Numbers
pub mod Puts
