pub mod Member
pub mod Next
pub mod Step
pub mod Text
