-- Laws of numbers laid over a buffer.
pub mod Laid
