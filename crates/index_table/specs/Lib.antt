pub mod Entry
pub mod Walk
pub mod Search
pub mod Shift
pub mod Check
