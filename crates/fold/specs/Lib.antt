-- What fold makes of nodes, and of their lists.
pub mod Lists
pub mod FoldedNodes
