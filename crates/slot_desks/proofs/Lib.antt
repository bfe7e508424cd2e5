pub mod SlotWalks
mod OwnSlots
mod Owners
mod TakenTwice
mod Rounds
