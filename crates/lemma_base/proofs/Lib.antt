pub mod Bool
pub mod Nat
pub mod Int
pub mod List
