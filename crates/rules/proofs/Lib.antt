-- The laws of the definitions, each beside the definition it is about. Callers cite these and not the definitions' text.
pub mod Bools
pub mod First
pub mod Lists
pub mod Nodes
pub mod Scheme
pub mod Clocks
pub mod Records
pub mod Latest
pub mod Held
pub mod State
pub mod Paths
pub mod Choice
pub mod Refusals
pub mod Votes
pub mod Searches
pub mod Logs
