-- How a struct is read as a state of rules, and what an outcome owes.
pub mod View
pub mod Tested
pub mod Rest
