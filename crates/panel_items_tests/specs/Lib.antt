pub mod Buoy
pub mod BuoyAt
pub mod KeepZone
pub mod EveryKind
