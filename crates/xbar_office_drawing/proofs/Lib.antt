pub mod Longer
pub mod Laying
pub mod NamesLeft
pub mod Filters
pub mod Told
pub mod ToldDrawing
