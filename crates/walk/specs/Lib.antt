pub mod Answers
pub mod Making
pub mod Meaning
pub mod Rows
pub mod WalkLaws
