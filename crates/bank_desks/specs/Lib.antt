pub mod Ended
pub mod Shards
