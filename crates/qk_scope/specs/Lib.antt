pub mod Answering
pub mod Parts
pub mod Resolving
pub mod RootNames
