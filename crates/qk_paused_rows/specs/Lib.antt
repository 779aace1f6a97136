-- what the rows compare, and one row as a statement
pub mod Words
pub mod Paused_counter
