-- To be believed: Words. What the code computes, or asks of its callers: computed. Proved: laws.
pub mod Words
pub mod computed
pub mod laws
