pub mod ReadyZones
pub mod Located
pub mod Refusals
pub mod Made
pub mod ZonesCalled
