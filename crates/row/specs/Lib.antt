-- To be believed, in this order: Decimal, Lines. What the code computes, or asks of its callers: computed. Proved: laws.
pub mod Decimal
pub mod Lines
pub mod computed
pub mod laws
