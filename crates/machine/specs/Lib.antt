-- To be believed, in this order: Machine, Calls. What the code computes, or asks of its callers: computed. Proved: laws.
pub mod Machine
pub mod Calls
pub mod computed
pub mod laws
