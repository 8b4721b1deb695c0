pub mod Core
pub mod Lawful
pub mod Step
pub mod Packing
pub mod Run
