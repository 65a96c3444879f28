-- To be believed, in this order: Words, Read. What the code computes, or asks of its callers: computed. Proved: laws.
pub mod Words
pub mod Read
pub mod computed
pub mod laws
