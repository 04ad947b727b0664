pub mod Order
pub mod Lexicographic
