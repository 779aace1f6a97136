pub mod Decimals
pub mod Bars
pub mod Spelled
