pub mod FewWords
pub mod Parts
pub mod BatchWords
pub mod Forms
pub mod Statuses
