-- To be believed: Paid. What the code computes, or asks of its callers: computed. Proved: laws.
pub mod Paid
pub mod computed
pub mod laws
