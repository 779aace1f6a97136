pub mod Rows
pub mod Kinds_alike
mod Once
mod Uses_kept
mod Captures_kept
pub mod Symbols_read
mod Arrows_kept
mod Captures_told
mod Names_kept
mod Equations
mod In_order
pub mod Clear_scopes
mod Modules_kept
mod Entries_fit
mod Numbered_equations
