pub mod LogSums
pub mod Ends
