pub mod Coming
pub mod Giving
pub mod Keeping
pub mod Looking_up
pub mod Sequences
pub mod Stepless
pub mod Steps
