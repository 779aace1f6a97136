pub mod Found
pub mod Made_due
pub mod Run_again
