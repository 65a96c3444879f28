pub mod Travel
pub mod Inside
pub mod Code
