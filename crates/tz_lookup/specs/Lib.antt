pub mod Range
pub mod LocalInfo
pub mod LeapInfo
pub mod Conversion
pub mod Choice
pub mod Found
pub mod Finding
