pub mod Travel
pub mod Asked
pub mod Inside
