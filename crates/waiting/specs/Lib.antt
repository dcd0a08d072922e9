-- The batches that wait, and what is new in an image with another queue.
pub mod Queues
pub mod NewQueues
