mod Common
pub mod Agreement
pub mod Cuts
pub mod Escapes
pub mod FirstBad
pub mod ListedDigest
pub mod Lookups
pub mod Pairs
pub mod Refusals
pub mod Spelling
pub mod Texts
pub mod Turns
pub mod Written
