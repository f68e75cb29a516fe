pub mod OneCell
pub mod Checked
