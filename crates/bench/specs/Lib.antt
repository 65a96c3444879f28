-- To be believed: Bench. What the code computes, or asks of its callers: computed. Proved: laws.
pub mod Bench
pub mod computed
pub mod laws
