pub mod Workers
pub mod Tries
