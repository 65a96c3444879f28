pub mod Over
pub mod Listing
pub mod Piece
pub mod Rest
