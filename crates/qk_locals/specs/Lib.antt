pub mod Meanings
pub mod Declaring
pub mod Layers
