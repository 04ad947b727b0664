pub mod Slots
pub mod Store
pub mod Fault
pub mod Chain
pub mod Compact
pub mod Refusal
