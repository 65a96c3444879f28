-- Nothing here is to be believed. What the code computes, or asks of its callers: computed. Proved: laws.
pub mod computed
pub mod laws
