-- To be believed, in this order: Point, Pulse, Byte, Travel. What the code computes, or asks of its callers: computed. Proved: laws.
pub mod Point
pub mod Pulse
pub mod Byte
pub mod Travel
pub mod computed
pub mod laws
