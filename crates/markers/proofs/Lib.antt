-- The proofs about markers.
pub mod Markers
pub mod Tests
