pub mod Followed
pub mod Compiled
pub mod Zone
pub mod Stretch
pub mod Looks
