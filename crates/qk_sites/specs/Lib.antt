pub mod Symbols
pub mod Laws
