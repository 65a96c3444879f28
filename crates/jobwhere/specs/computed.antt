pub mod Asked
pub mod Row
