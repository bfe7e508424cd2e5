pub mod Escape
pub mod Figure
pub mod Drawing
