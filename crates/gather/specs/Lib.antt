-- The lists of a stack, and what gathering them promises.
pub mod Lists
pub mod Gathers
