mod Common
pub mod Addresses
pub mod FieldSteps
pub mod Groupings
pub mod Groups
pub mod Lawful
pub mod Times
pub mod Made
pub mod WorkedClaim
pub mod Spelled
