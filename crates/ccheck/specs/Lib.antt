-- To be believed: Check. What the code computes, or asks of its callers: computed. Proved: laws.
pub mod Check
pub mod computed
pub mod laws
