-- In reading order.
pub mod Lent
pub mod Verdict
pub mod Window
pub mod Rows
pub mod Hits
pub mod Names
pub mod Vertices
pub mod Devices
