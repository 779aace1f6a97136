pub mod Script
pub mod Answer
pub mod Words
pub mod Adding
