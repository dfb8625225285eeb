mod Common
pub mod CompactRead
pub mod Digits
pub mod EntriesRead
pub mod CommaList
pub mod Limits
pub mod LineFeed
pub mod PairRead
pub mod PartsRead
pub mod PiecesRead
pub mod ReadBack
pub mod RefutationText
pub mod TextRead
pub mod Texts
pub mod WholeRead
