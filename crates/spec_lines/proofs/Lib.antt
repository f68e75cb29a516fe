pub mod Taking
pub mod Bytes
pub mod Items
pub mod Feeds
pub mod NumberSpelling
pub mod PatternSpelling
pub mod KindSpelling
pub mod LineSpelling
pub mod AgainSpelling
pub mod LinesAgain
pub mod Reached
pub mod SpelledLines
pub mod Bodies
pub mod Faulty
pub mod TextOrders
pub mod Ascents
mod EdgeRows
mod WholeRows
pub mod FileLines
pub mod FilesRead
