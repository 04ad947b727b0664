pub mod Refusal
pub mod Looking
pub mod Changing
pub mod Keeping
pub mod Handling
pub mod Upkeep
