pub mod Items
pub mod Parts
pub mod Rule
pub mod Tickets
