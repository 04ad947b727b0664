pub mod View
pub mod Looking
pub mod Answers
pub mod Fault
pub mod Retain
pub mod Shrink
