pub mod ClaimField
pub mod Explanation
pub mod Quote
pub mod Sentence
pub mod Shell
pub mod Slip
pub mod Subject
