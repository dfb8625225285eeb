pub mod StampTick
pub mod Rounding
pub mod NanosecondTicks
pub mod RecordWindow
