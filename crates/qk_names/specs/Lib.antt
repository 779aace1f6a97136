pub mod Inside
pub mod Handed
pub mod Laws
