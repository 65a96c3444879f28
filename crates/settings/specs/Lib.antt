-- To be believed: Settings. What the code computes, or asks of its callers: computed. Proved: laws.
pub mod Settings
pub mod computed
pub mod laws
