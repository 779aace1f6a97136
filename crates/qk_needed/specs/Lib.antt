pub mod Needed
pub mod Needed_item
pub mod Deciding
pub mod Tidy
pub mod Laws
