pub mod Calls
pub mod Cases
pub mod Differences
pub mod Parity
pub mod Spans
pub mod Turned
