pub mod Texts
pub mod Document
pub mod Written
pub mod Refusal
