-- What the layers of a stack say of a name.
pub mod Said
