pub mod Accepting
pub mod Refusing
pub mod Laws
pub mod Passing
pub mod Pieces
