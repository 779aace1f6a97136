-- Worked examples that the check computes.
pub mod Printed
pub mod Entered_and_touched
pub mod Late_mount
pub mod Three_reads
pub mod Counter_budget
pub mod There_and_back
pub mod Same_props
pub mod Task_beside_kept
pub mod Listener_first
pub mod Endless
pub mod Kept_values
pub mod Stale_run
