pub mod Opening
pub mod Reload
pub mod Messages
