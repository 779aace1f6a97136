pub mod Accepting
pub mod Causes
pub mod Laws
