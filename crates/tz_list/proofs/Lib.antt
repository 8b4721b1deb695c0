pub mod Errors
pub mod ReloadLemmas
