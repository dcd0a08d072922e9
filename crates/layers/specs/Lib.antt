-- What the calls answer.
pub mod Answered
pub mod Attrs
