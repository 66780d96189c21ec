-- The clauses of a table as the code tests them, the log read backwards, the branch by counting, and the whole test.
mod Clauses
mod Compared
mod Matching
mod Branch
pub mod Tested
