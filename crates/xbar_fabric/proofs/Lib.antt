pub mod Offices
pub mod Sent
pub mod Steps
pub mod Finishing
pub mod ToldSteps
pub mod GoneOn
pub mod Running
pub mod GivenBack
pub mod NewDesks
mod UnusedWords
pub mod Meets
pub mod AllDesks
pub mod OwnRecords
pub mod GrownRecords
pub mod LaterTurns
pub mod Growing
pub mod Reporting
