-- Devices of proofs: contracts of private functions name them, and nothing public does.
pub mod Ran
pub mod Words
pub mod Scanned
