pub mod Right
pub mod Onward
pub mod Next
pub mod Load
pub mod Calls
pub mod Keeps
pub mod Alone
pub mod Rest
