-- To be believed: Reader. What the code computes, or asks of its callers: computed. Proved: laws.
pub mod Reader
pub mod computed
pub mod laws
