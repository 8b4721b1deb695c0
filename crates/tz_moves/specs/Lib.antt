pub mod Moves
pub mod Move
pub mod Day
