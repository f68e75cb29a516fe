pub mod Classes
pub mod Entries
pub mod Texts
pub mod EntryLaws
pub mod Files
pub mod Joined
pub mod Joining
pub mod LineAnswers
