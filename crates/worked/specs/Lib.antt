-- The worked examples: Table. Nothing is believed by it; the checker computes it.
pub mod Table
