pub mod Seeing
pub mod Comparing
