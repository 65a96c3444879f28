-- To be believed, in this order: Given, Looks, Texts. What the code computes, or asks of its callers: computed. Proved: laws.
pub mod Given
pub mod Looks
pub mod Texts
pub mod computed
pub mod laws
