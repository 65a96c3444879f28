pub mod Chain
pub mod Questions
