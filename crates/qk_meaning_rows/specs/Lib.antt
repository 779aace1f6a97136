-- the words of the rows: for syntax trees, and for what is compared
pub mod Trees
pub mod Common
-- one row as a statement
pub mod Clicked_counter
