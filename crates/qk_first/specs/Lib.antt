pub mod Counter
pub mod Kept
pub mod Laws
pub mod Shape
