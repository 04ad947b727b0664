pub mod Running
pub mod Reaching
pub mod Entered
