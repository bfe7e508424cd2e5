pub mod Answering
pub mod Saying
