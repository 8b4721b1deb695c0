pub mod PieceLemmas
pub mod DistinctLemmas
pub mod RefusalLemmas
pub mod NearLemmas
pub mod MergedLemmas
pub mod PlaceLemmas
pub mod MeaningLemmas
pub mod FileLemmas
