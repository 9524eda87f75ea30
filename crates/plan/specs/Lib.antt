pub mod Numbers
pub mod Format
pub mod Reading
pub mod Written
