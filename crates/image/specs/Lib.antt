-- The layout of the image, in reading order.
pub mod Meaning
pub mod Fits
pub mod Masks
pub mod FieldLayout
pub mod Places
pub mod Rows
pub mod Under
pub mod KindLayout
pub mod FileTypes
pub mod Letters
pub mod NodeLayout
pub mod RecordLayout
pub mod StoreLayout
pub mod RoundTrip
