pub mod Decimal
pub mod Long
pub mod Lines
pub mod Buffer
pub mod Puts
pub mod Numbers
pub mod Behind
pub mod Examples
