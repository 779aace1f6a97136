pub mod Doings
pub mod Giving
pub mod Settled
