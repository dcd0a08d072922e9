-- The definitions that the contracts of `wire` cite, in reading order.
pub mod Parse
pub mod Codec
pub mod Combinators
pub mod Number
pub mod Text
pub mod Time
pub mod Order
pub mod Orders
pub mod Rows
pub mod RowLaws
pub mod Maps
pub mod Lists
pub mod Reading
pub mod Compared
pub mod Put
pub mod Printed
