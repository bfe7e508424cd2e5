pub mod Shifts
pub mod Logs
pub mod Trying
pub mod Freely
