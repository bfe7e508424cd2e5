pub mod Added
pub mod Listed
pub mod ChangedWords
pub mod WordPlaces
