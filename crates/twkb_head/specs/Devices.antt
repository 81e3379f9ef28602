-- Devices of proofs: contracts of private functions name them, and nothing public does.
pub mod HeadReader
pub mod Holds
pub mod Raw
