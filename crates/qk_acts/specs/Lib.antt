pub mod Keying
pub mod Lists
pub mod Looking
pub mod Naming
pub mod Ways
