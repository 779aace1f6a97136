pub mod Examples
pub mod NameSets
pub mod Bound
pub mod Walks
pub mod FirstDerives
mod Fragment
mod Refused
pub mod FrontToken
pub mod Pieces
pub mod OneToken
pub mod OneTagToken
pub mod OneTokenList
