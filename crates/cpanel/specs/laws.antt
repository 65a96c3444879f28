pub mod Words
pub mod Panel
pub mod Start
