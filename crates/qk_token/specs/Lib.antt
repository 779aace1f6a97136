pub mod Pieces
pub mod View
pub mod Reads
pub mod Seen
pub mod Lexed
