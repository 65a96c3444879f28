pub mod Known
pub mod Progress
pub mod Right
