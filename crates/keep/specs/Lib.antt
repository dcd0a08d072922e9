-- What names lead to below, and the rows that stay.
pub mod Below
pub mod Keeps
