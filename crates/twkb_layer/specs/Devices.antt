-- Devices of proofs: contracts of private functions name them, and nothing public does.
pub mod Layer
pub mod EachBlob
pub mod Refusal
pub mod Tight
pub mod Seeking
pub mod Scanning
pub mod RawWindows
pub mod Slots
pub mod TextReader
pub mod Decimals
