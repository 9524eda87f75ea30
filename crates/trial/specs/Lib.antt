pub mod Numbers
pub mod Calls
pub mod Answers
pub mod Lines
pub mod Day
pub mod Sessions
pub mod Written
