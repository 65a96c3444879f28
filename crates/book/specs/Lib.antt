-- To be believed, in this order: Bench, Book, Bounds, Sums, Ledger, Unit. Proved: proofs/laws.
pub mod Bench
pub mod Book
pub mod Bounds
pub mod Sums
pub mod Ledger
pub mod Unit
