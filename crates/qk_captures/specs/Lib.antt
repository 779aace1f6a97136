pub mod Capturing
pub mod Scoping
pub mod Walking
