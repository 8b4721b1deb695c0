pub mod Groups
pub mod BatchTexts
pub mod BatchAnswer
pub mod Refusal
pub mod Due
