pub mod Stay
pub mod StayAt
pub mod Sailing
pub mod Code
pub mod CodeOrder
pub mod CodeText
pub mod CodeTextRefusal
pub mod EndedBy
