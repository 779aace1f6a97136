pub mod Causes
pub mod Files
pub mod Answers
pub mod Pieces
pub mod Held
pub mod Calls
pub mod Memory
pub mod Texts
