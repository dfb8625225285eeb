pub mod Exchange
pub mod Window
pub mod Sample
pub mod OnWire
pub mod Widening
pub mod Moment
