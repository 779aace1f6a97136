pub mod Choices
pub mod GapLemmas
pub mod EscapeLemmas
pub mod QuoteLemmas
pub mod BytesLemmas
mod ScanLemmas
pub mod TableLemmas
pub mod RegionLemmas
pub mod CodeSteps
pub mod TagSteps
pub mod Lifts
pub mod ReadingLemmas
pub mod JoinLemmas
