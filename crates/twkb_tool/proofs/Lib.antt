-- The proofs about words, streams and texts.
mod Prelude
pub mod LineLemmas
pub mod StreamLemmas
pub mod TextLemmas
pub mod WindowLemmas
pub mod WordLemmas
