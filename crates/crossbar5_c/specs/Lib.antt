pub mod Answer
pub mod Bytes
