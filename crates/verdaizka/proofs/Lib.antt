-- What the exported calls promise is what the libraries' calls promise.
pub mod Promised
