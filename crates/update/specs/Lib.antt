-- What the calls answer, and what they write.
pub mod Updates
