-- Laws that the calls which change an image share.
pub mod Sections
pub mod Finishing
pub mod Batches
pub mod Queued
pub mod Cutting
pub mod EditRows
pub mod Splicing
