-- What the calls on live records write.
pub mod NewLists
pub mod NewRecords
pub mod Directories
pub mod Altered
