pub mod IsSystem
