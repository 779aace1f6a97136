pub mod Appends
pub mod Finding
