pub mod Right
pub mod Words
pub mod Write
