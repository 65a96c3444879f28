pub mod Travel
pub mod Point
