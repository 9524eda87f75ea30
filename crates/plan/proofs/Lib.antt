pub mod Decimals
pub mod Ends
pub mod Gathers
pub mod Made
pub mod PartLines
pub mod PlanTexts
pub mod Plans
pub mod Words
