-- How the code's ways with slices, positions and digits come to the definitions; and that a number written and read back is the same.
pub mod Words
pub mod Numbers
pub mod Parts
pub mod Letters
pub mod Digits
pub mod Readback
pub mod Laid
pub mod Printed
