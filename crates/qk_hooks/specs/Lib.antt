pub mod Standing
pub mod Spots
pub mod Marking
pub mod Providing
pub mod Ran_again
