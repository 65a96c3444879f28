pub mod Number
pub mod Ask
