pub mod Examples
pub mod Scopes
pub mod Once
pub mod Alike
pub mod Walks
pub mod Numbers
pub mod Lexical
