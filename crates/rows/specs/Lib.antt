-- What a listing shows, answers and fills.
pub mod Listings
pub mod Counts
pub mod Plans
