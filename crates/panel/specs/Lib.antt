-- To be believed: Whole. What the code computes, or asks of its callers: computed. Proved: laws.
pub mod Whole
pub mod computed
pub mod laws
