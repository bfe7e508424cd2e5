pub mod Fault
pub mod Shape
pub mod Field
pub mod Switch
pub mod Laws
