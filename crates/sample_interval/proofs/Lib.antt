mod Common
pub mod NoOverflow
pub mod Moment
pub mod OnWire
pub mod ExchangeSample
pub mod HeldSamples
pub mod LeastWidening
