pub mod Fault
pub mod Join
pub mod Steps
pub mod JoinLaws
pub mod Joined
pub mod Stepping
pub mod JoinedLaws
