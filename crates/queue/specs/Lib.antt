-- To be believed: Queue. What the code computes, or asks of its callers: computed. Proved: laws.
pub mod Queue
pub mod computed
pub mod laws
