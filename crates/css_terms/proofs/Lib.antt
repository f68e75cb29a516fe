pub mod Caps
pub mod Sums
pub mod Shown
pub mod Tails
pub mod RankOrder
pub mod Evaluation
pub mod Passes
pub mod Cuts
mod TermRows
pub mod SpecRows
pub mod Zipped
