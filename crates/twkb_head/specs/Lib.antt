-- What the contracts of this crate name, in reading order.
pub use Rattle.twkb_num.specs.Cursor
pub use Rattle.twkb_num.specs.Varint
pub use Rattle.twkb_num.specs.Units
pub mod Parts
pub mod Header
pub mod Holds
pub mod Head
pub mod BegunHeader
pub mod Refusal
pub mod Raw
pub mod Laws
pub mod Shared
pub mod Devices
