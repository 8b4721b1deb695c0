pub mod Pin
pub mod Answer
pub mod Schedule
pub mod Messages
pub mod Progress
