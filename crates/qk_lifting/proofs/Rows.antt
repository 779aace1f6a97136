-- The files of some applications, computed.
pub mod Written
pub mod Keeping
mod Counter
mod Nested_dollar_functions
mod Shadowed
mod Imports
mod Tasks
mod Many
mod Refused
