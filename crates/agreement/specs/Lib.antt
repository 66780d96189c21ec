pub mod Scheme
pub mod Tree
pub mod Facts
pub mod Passed
pub mod Steps
