pub mod Acting
pub mod Marking
pub mod Keeping
pub mod Trying
pub mod Keys
pub mod Attributes
pub mod Tags
