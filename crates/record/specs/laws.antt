pub mod Places
pub mod Record
pub mod Right
pub mod Sound
pub mod Write
pub mod Later
pub mod Load
pub mod Again
