pub mod Dollars
pub mod Names
pub mod Declarations
pub mod Behind
