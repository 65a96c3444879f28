pub mod Sum
pub mod Jump
pub mod Paid
