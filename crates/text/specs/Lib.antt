pub mod Coming
pub mod Digits
pub mod Pieces
pub mod Named
