-- Lists looked through by name.
pub mod Lists
pub mod Search
pub mod Children
