pub mod Calls
pub mod Counts
pub mod Entries
pub mod Files
pub mod MemoryFiles
pub mod MemorySink
pub mod Messages
pub mod Sink
