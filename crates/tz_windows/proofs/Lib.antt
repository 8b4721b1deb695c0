pub mod FoundLemmas
pub mod SeenLemmas
