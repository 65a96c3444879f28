pub mod Read
pub mod Turn
