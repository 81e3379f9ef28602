-- What the contracts of this crate name, in reading order.
pub mod Streams
pub mod Output
pub mod Ran
pub mod Words
pub mod Status
pub mod Memory
pub mod Laws
pub mod Devices
