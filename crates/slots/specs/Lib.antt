pub mod Slots
pub mod System
pub mod Taken
pub mod WorkedRun
pub mod Few
