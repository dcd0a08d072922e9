-- Types and attributes by value, and what they mean.
pub mod Meant
pub mod Attrs
