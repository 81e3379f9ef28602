-- Devices of proofs: contracts of private functions name them, and nothing public does.
pub mod Varint
pub mod Ends
pub mod Lanes
