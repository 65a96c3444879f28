-- To be believed: Calls. What the code computes, or asks of its callers: computed. Proved: laws.
pub mod Calls
pub mod computed
pub mod laws
