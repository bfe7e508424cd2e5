pub mod Rows
pub mod Items
pub mod Walks
pub mod Parts
pub mod Runs
pub mod Observers
pub mod Stories
