pub mod Same
pub mod Beyond
