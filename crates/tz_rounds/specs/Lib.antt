pub mod Rounds
pub mod Sending
pub mod Jobs
pub mod Backs
pub mod Running
pub mod Merging
pub mod RoundRun
