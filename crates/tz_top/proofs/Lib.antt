pub mod Groups
pub mod SourcesRead
pub mod Once
pub mod Outcomes
pub mod Due
