pub mod Repeats
pub mod EachOnce
pub mod Placements
pub mod KindLists
pub mod Words
pub mod Tried
pub mod RuleSteps
pub mod Rulebooks
