-- To be believed: Divider. What the code computes, or asks of its callers: computed. Proved: laws.
pub mod Divider
pub mod computed
pub mod laws
