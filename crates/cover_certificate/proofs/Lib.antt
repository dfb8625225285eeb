mod Common
pub mod CasesRead
pub mod OneMore
pub mod CoverRead
pub mod CoversBack
pub mod CoversLimits
pub mod CoversText
pub mod EntriesRead
pub mod Limits
pub mod PartsRead
pub mod PiecesRead
pub mod ReadBack
pub mod TextRead
pub mod Texts
