pub mod Sources
pub mod Release
pub mod Refusal
pub mod Messages
pub mod Search
pub mod Kept
