pub mod Common
pub mod Commands
