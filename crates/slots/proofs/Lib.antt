pub mod FreeSlots
pub mod SlotBits
pub mod SlotsSystem
pub mod TakenOnce
pub mod SlotBounds
pub mod RunByHand
