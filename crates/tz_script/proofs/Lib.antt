pub mod HoldNames
pub mod WordCuts
pub mod Soundness
pub mod Reading
pub mod ScriptLaws
pub mod HoldRules
pub mod HoldsKept
pub mod Order
