pub mod Input
pub mod Ahead
pub mod Parts
pub mod Forms
pub mod Statements
pub mod Reader
pub mod Laws
