-- What the one pass answers.
pub mod Gathering
pub mod Reasons
pub mod Survey
pub mod Verdict
