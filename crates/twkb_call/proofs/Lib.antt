-- The proofs about what calls for other languages return.
mod Prelude
pub mod Windows
pub mod Verdicts
pub mod Answered
