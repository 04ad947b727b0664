pub mod Parts
pub mod Standing
pub mod Step
pub mod Reading
pub mod Law
