-- Nothing here is to be believed. What the code computes, or asks of its callers: computed.
pub mod computed
