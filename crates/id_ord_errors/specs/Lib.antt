pub mod Refusal
pub mod Fault
