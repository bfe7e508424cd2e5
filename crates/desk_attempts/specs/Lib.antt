pub mod Speculation
pub mod Of
pub mod Groups
pub mod GroupPlaces
