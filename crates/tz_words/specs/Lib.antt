pub mod NamedText
pub mod BatchCommand
pub mod Command
pub mod Form
pub mod Status
