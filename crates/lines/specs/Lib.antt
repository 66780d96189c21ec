-- The lines of document 01's replay program: how a line of input is read, and how a line of output is written.
pub mod Words
pub mod Numbers
pub mod Parts
pub mod Parse
pub mod Print
pub mod Cases
