pub mod Word
pub mod HeaderTests
pub mod Soundness
pub mod Completeness
pub mod Exactness
pub mod Truncation
