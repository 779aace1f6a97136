pub mod Many
pub mod TwoParts
