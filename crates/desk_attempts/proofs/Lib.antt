pub mod PredictedWalks
pub mod SpeculationNow
pub mod Confirmed
mod Confirming
pub mod SnapshotWalks
mod WordSteps
mod FirstFieldFits
