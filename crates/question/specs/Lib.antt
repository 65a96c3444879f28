-- To be believed: Question. Proved: laws.
pub mod Question
pub mod laws
