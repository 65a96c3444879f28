pub mod Check
pub mod Start
