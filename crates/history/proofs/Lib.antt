-- The laws: what is proved of the definitions in specs/. And what the calls promise is what the checker hands to a caller.
pub mod laws
pub mod Promised
