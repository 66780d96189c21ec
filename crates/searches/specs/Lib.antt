-- What a test answers.
pub mod Tests
