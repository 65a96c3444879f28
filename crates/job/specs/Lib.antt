-- To be believed, in this order: Text, Job, Listing, Check, Unit. What the code computes, or asks of its callers: computed. Proved: laws.
pub mod Text
pub mod Job
pub mod Listing
pub mod Check
pub mod Unit
pub mod computed
pub mod laws
