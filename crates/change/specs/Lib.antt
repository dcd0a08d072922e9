-- What a change answers, and what it finds in an image.
pub mod Changed
pub mod Sections
pub mod Batches
pub mod Cuts
pub mod Edits
pub mod Splices
