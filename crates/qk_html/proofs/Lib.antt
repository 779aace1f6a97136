pub mod Appending
pub mod Elements_found
pub mod Listed
pub mod Node_texts
pub mod Walking
