pub mod Counts
pub mod Counted
