-- What the contracts of this crate name, in reading order.
pub mod Varint
pub mod Cursor
pub mod Numbers
pub mod Units
pub mod Devices
