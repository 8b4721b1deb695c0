pub mod InOrder
pub mod States
