pub mod LocalTime
pub mod Findings
pub mod Choice
pub mod Clock
