pub mod First
pub mod SinkStates
