pub mod Names
pub mod Entries
pub mod FileLemmas
pub mod Faults
