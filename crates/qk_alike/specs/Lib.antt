pub mod Meanings_stand
pub mod Code_stands
pub mod Computed_alike
pub mod Pairings
pub mod Laws
