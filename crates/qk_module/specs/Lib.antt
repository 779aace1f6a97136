pub mod ScopeParts
