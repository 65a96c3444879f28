-- To be believed, in this order: Agree, Reply, CallContracts, History, Demand, Figure, Look. Proved: proofs/laws.
pub mod Agree
pub mod Reply
pub mod CallContracts
pub mod History
pub mod Demand
pub mod Figure
pub mod Look
