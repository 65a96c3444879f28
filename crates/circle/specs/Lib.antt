-- To be believed, in this order: Circle, Next, Charge. What the code computes, or asks of its callers: computed. Proved: proofs/laws.
pub mod Circle
pub mod Next
pub mod Charge
pub mod computed
