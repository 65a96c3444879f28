-- To be believed, in this order: Letter, Word. What the code computes, or asks of its callers: computed. Proved: laws.
pub mod Letter
pub mod Word
pub mod computed
pub mod laws
