pub mod Split
pub mod Pieces
pub mod Line
pub mod Fill
pub mod Told
