pub mod Cuts
pub mod Decimals
pub mod Numerals
pub mod Lacks
pub mod Names
