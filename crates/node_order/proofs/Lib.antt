-- The laws of the order of nodes.
pub mod Children
pub mod ByWord
pub mod Queue
pub mod Enqueued
pub mod BreadthFirst
