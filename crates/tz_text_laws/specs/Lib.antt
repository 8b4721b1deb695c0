pub mod Version
pub mod LeadsTo
pub mod Records
