pub mod FindingsLemmas
pub mod InfoLemmas
pub mod InstantLemmas
pub mod ClockLemmas
