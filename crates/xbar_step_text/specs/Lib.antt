pub mod Places
pub mod Shown
pub mod Words
pub mod Lines
pub mod Observed
pub mod Objects
pub mod Next
