-- A walk step by step, what each search says of a path, that a walk of enough steps is a path, and that a walk in the whole array is a walk among the records in use.
pub mod Steps
pub mod Searches
pub mod Shown
pub mod Whole
pub mod Determined
