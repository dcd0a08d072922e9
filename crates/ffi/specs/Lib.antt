-- What the exported calls reply.
pub mod Replies
