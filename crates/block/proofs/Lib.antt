-- The laws: what is proved of the definitions in specs/.
pub mod laws
