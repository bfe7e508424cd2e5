pub mod Jobs
pub mod Markers
pub mod Lines
pub mod Connectors
pub mod Look
