-- To be believed, in this order: Known, Long, Progress. What the code computes, or asks of its callers: computed. Proved: laws.
pub mod Known
pub mod Long
pub mod Progress
pub mod computed
pub mod laws
