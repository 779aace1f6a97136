pub mod Nodes
pub mod Growing
pub mod Borrowed
pub mod Found
pub mod Used
pub mod Mentioned
