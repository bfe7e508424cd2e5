pub mod Subcommand
pub mod Program
pub mod Forms
pub mod Fault
pub mod Ask
pub mod Table
