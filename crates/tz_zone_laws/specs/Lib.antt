pub mod OffsetWritten
