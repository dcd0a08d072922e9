-- What a stack is, and what opening one answers.
pub mod Stacks
pub mod InStack
pub mod Questions
pub mod Named
