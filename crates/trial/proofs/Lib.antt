pub mod CallLines
pub mod Decimals
pub mod Openings
pub mod Scans
pub mod Texts
