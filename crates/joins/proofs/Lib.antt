pub mod JoinCalls
pub mod JoinedRows
