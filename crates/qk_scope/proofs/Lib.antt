pub mod Answered
pub mod Chained
pub mod Declared
pub mod Forms
pub mod Read
pub mod Resolved
pub mod Rooted
pub mod Walked
