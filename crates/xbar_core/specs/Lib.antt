pub use Rattle.xbar_plan.specs.Tables
pub use Rattle.xbar_office.specs.Legal
pub use Rattle.xbar_jobs.specs.Office
pub use Rattle.xbar_jobs.specs.OnWords
pub mod Standing
pub mod Ends
