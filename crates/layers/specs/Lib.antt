pub mod Part
pub mod Reverse
pub mod Pieces
pub mod Reversed
