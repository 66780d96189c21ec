-- What the methods share: reading a struct as a state, and meeting a contract.
mod Views
mod Structs
mod Heads
pub mod Determined
mod Targets
mod Commits
