-- The laws of the placing rule.
pub mod Trie
pub mod FirstFit
pub mod Rooms
pub mod Placing
pub mod NodeByNode
pub mod Slots
pub mod Walk
pub mod Sample
pub mod TakenSlots
