pub mod Accepted_over
