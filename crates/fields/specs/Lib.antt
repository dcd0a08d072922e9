-- Fields over fields.
pub mod Fields
