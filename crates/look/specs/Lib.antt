-- To be believed: Look. What the code computes, or asks of its callers: computed. Proved: laws.
pub mod Look
pub mod computed
pub mod laws
