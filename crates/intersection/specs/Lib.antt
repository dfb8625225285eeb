pub mod Interval
pub mod Fraction
pub mod Hull
pub mod Ends
pub mod Marzullo
pub mod Fineness
