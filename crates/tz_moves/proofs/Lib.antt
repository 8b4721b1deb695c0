pub mod ListLemmas
pub mod MoveLemmas
pub mod WalkLemmas
pub mod StretchLemmas
pub mod DayLemmas
pub mod CountLemmas
