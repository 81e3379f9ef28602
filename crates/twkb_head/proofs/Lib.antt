-- The proofs about headers: fields and their cuts, plans, readers, and the laws of the definitions.
mod Prelude
pub mod Spelling
pub mod FieldCuts
pub mod Plans
pub mod Combinators
pub mod Leaves
pub mod Heads
pub mod Readings
pub mod Steps
pub mod NumberRuns
pub mod HeadSteps
pub mod HeadRuns
pub mod Loops
pub mod HeadLaws
pub mod Rests
pub mod HeadBack
