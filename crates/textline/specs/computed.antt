pub mod TextLine
