-- Nothing here is to be believed. Proved: laws.
pub mod laws
