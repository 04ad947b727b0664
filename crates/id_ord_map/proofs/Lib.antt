pub mod Looks
pub mod Adopting
pub mod Ruled
