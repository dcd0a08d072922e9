mod Examples
pub mod OneForm
pub mod RoundTrip
pub mod Passing
pub mod Holding
pub mod Listed
pub mod Numbered
