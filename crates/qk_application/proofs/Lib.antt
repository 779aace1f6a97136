pub mod Judged
pub mod Excluded
