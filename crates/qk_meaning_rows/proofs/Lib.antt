-- Worked examples that the check computes. First the words for single calls; those for syntax trees and for what is compared stand in `specs`.
pub mod Calls
-- single expressions and statements
pub mod Arithmetic
pub mod Texts
pub mod Lists
pub mod Refusals
-- what a change logs, and how values are spelled
pub mod Logged
pub mod Spelled
-- counters, budgets, pauses
pub mod Counter
pub mod Counter_alone
pub mod Counter_paused
pub mod Boundary
pub mod Budget_of_turns
pub mod Endless_listener
pub mod First_of_two_ids
pub mod Without_listener
-- state: shared, cyclic, captured, hidden
pub mod Shared_object
pub mod Shared_object_at_first
pub mod Cyclic_store
pub mod Refreshed_capture
pub mod Nested_dollar_functions
pub mod Function_over_captured
pub mod Shadowed_root_name
pub mod Shadowed_names
pub mod Plain_function
pub mod Hidden_function
pub mod Props_that_outlive
-- tasks, computeds, contexts
pub mod Change_and_back
pub mod Tracked_nested_property
pub mod Hook_answers
pub mod Late_mount
-- traces and stops
pub mod Told_in_order
-- faults of renders
pub mod Write_in_render
pub mod Line_in_computed
pub mod Lists_compared
-- trees: keys, Slots, paths, texts
pub mod Keyed_list
pub mod Unkeyed_beside_keyed
pub mod Slots_and_contexts
pub mod Context_of_a_signal
pub mod Slot_handed_on
pub mod Path_of_128_steps
pub mod Path_of_129_steps
pub mod Jsx_text
pub mod Escapes
-- whole pages
pub mod Rules_of_names
pub mod Rules_of_places
pub mod Cells
pub mod Things_to_do
