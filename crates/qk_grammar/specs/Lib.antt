pub mod Seen
pub mod Nests
pub mod FormsSeen
pub mod Levels
pub mod Keyed
