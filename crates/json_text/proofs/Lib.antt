mod Common
pub mod Digits
pub mod Names
pub mod NextToken
pub mod NextTokens
pub mod Texts
pub mod Outline
pub mod Steps
