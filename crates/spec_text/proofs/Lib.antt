pub mod SetCells
pub mod ChildLines
pub mod FileTexts
pub mod KeptLines
pub mod KeptKinds
pub mod KeptRoots
pub mod KeptTraces
pub mod KeptEntries
pub mod WrittenSpecs
pub mod KindRows
mod TextRows
pub mod Joining
pub mod Joined
pub mod FileRanges
pub mod ReadSpecs
pub mod LineAnswers
