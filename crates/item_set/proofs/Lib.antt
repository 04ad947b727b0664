pub mod Slots
pub mod Inserting
pub mod Following
pub mod Packing
pub mod Soundness
pub mod Compacting
pub mod Chains
pub mod Keeping
