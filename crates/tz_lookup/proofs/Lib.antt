pub mod Appends
pub mod FoundOnce
