pub mod Order
pub mod Same
pub mod Lexicographic
pub mod KeepFirst
