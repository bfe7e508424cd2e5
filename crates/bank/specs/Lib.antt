pub mod Bank
pub mod Sums
pub mod System
