-- Devices of proofs: contracts of private functions name them, and nothing public does.
pub mod Verdict
pub mod Drawing
