pub mod Queue
pub mod Test
