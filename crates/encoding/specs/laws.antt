pub mod Number
pub mod Same
pub mod Right
pub mod Record
pub mod Kind
