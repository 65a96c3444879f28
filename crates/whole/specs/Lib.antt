-- To be believed, in this order: First, Root, Width, Sign, Equal. What the code computes, or asks of its callers: computed. Proved:
-- laws.
pub mod First
pub mod Root
pub mod Width
pub mod Sign
pub mod Equal
pub mod computed
pub mod laws
