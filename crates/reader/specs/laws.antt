pub mod Feed
pub mod Small
pub mod Asked
pub mod TextLine
