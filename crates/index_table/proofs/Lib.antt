pub mod Probing
pub mod Walking
pub mod Finding
pub mod Shifting
pub mod Rising
pub mod Places
pub mod Checking
pub mod Passing
