pub mod Scan
pub mod Gaps
pub mod Quotes
pub mod Tables
pub mod Regions
pub mod Steps
pub mod Reading
pub mod Joining
