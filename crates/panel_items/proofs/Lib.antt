pub mod EightDigits
pub mod CodeOrder
