pub mod Told
pub mod Parts
pub mod MarkersTold
pub mod Conns
pub mod JobsTold
