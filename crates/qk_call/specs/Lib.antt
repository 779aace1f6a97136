pub mod Lines
pub mod Playing
pub mod Printing
pub mod Alone
pub mod Calling
pub mod Words
