pub mod Letters
pub mod Shapes
pub mod Printing
pub mod Lists
pub mod Growing
pub mod Laws
