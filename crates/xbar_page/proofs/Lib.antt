pub mod SectionSteps
pub mod SectionPlaces
pub mod Standing
pub mod StandingPath
pub mod StandingTurn
pub mod StaySteps
