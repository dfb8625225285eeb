-- What the definitions and contracts of this crate name of others.
pub use Rattle.era_unfold.specs.Window.{ticks_per_second}
pub use Rattle.intersection.specs.Fraction.{HoldsFraction}
pub use Rattle.intersection.specs.Hull.{hull_of}
pub use Rattle.intersection.specs.declared.ends.Side.{Side}
pub use Rattle.intersection.specs.declared.ends.Side.TheVariants.{High, Low}
pub use Rattle.intersection.specs.declared.kinds.Hull.{Hull}
pub use Rattle.intersection.specs.declared.kinds.Hull.TheVariants.{Bounded, Empty, Unbounded}
pub use Rattle.intersection.specs.declared.kinds.Interval.{Interval}
pub use Rattle.sample_interval.specs.Moment.{DriftsWithinByReading, IsInWindow, IsOffAtLeast, IsOffAtMost, Moment}
pub use Rattle.sample_interval.specs.Moment.{error_of}
pub use Rattle.sample_interval.specs.Sample.{IsLawfulSample}
pub use Rattle.sample_interval.specs.Widening.{IsRate, billion, widening}
pub use Rattle.sample_interval.specs.declared.kinds.Sample.{Sample}
pub use Rattle.std.specs.Int.{int_max, int_min}
pub use Rattle.std.specs.Option.{option_map}
