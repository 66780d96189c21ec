-- Document 01, in its order. A reader who believes these definitions has nothing else to believe but each contract's one line.
pub mod First
pub mod Nodes
pub mod Scheme
pub mod Clocks
pub mod Records
pub mod Tree
pub mod State
pub mod Refusals
pub mod Proposals
pub mod Reading
pub mod Run
pub mod Marked
