pub mod Fault
pub mod Fields
pub mod Job
pub mod Number
pub mod Numbers
pub mod Row
pub mod Traffic
