-- To be believed, in this order: Grammar, Meaning, Whole. What the code computes, or asks of its callers: computed. Proved: laws.
pub mod Grammar
pub mod Meaning
pub mod Whole
pub mod computed
pub mod laws
