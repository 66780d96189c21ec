-- What a push moves: the children of its target, and the entries that the log gains.
mod Adoption
pub mod Gained
mod Written
pub mod Shown
