pub mod Ladder
pub mod Rungs
