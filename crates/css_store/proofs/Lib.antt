pub mod InRow
pub mod MayFile
