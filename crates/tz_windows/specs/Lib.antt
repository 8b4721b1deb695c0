pub mod Window
pub mod Scan
pub mod Seen
