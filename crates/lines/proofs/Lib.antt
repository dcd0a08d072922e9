-- Laws that the proofs of more than one function use; `whole` (Whole) says what the program writes, Worth and Examples what its lines are.
pub mod Spelling
pub mod Rowed
pub mod Opening
pub mod Whole
pub mod Worth
pub mod Examples
