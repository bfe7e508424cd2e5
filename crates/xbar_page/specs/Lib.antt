pub mod Words
pub mod Sections
pub mod Links
pub mod Section
pub mod Stays
pub mod Picture
pub mod Page
