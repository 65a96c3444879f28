pub mod Asked
pub mod Reader
pub mod TextLine
pub mod Small
