-- To be believed: Work. What the code computes, or asks of its callers: computed. Proved: laws.
pub mod Work
pub mod computed
pub mod laws
