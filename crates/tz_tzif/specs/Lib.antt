pub mod Types
pub mod Designations
pub mod File
pub mod Refusal
pub mod Answer
pub mod Meaning
pub mod Messages
