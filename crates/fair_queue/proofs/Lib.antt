pub mod Joining
pub mod Moves
pub mod Totals
pub mod Weights
