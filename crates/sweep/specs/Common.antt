-- What the definitions and contracts of this crate name of others.
pub use Rattle.intersection.specs.declared.ends.Side.{Side}
pub use Rattle.intersection.specs.declared.ends.Side.TheVariants.{High, Low}
pub use Rattle.intersection.specs.declared.kinds.Interval.{Interval}
pub use Rattle.sample_interval.specs.Sample.{IsLawfulSample}
pub use Rattle.sample_interval.specs.Widening.{IsRate, billion}
pub use Rattle.sample_interval.specs.declared.kinds.Sample.{Sample}
pub use Rattle.span_cover.specs.Best.{HasNoSample, best_of}
pub use Rattle.span_cover.specs.Gathering.{best_interval}
pub use Rattle.span_cover.specs.Piece.{IsPiece}
pub use Rattle.span_cover.specs.declared.part.Part.{Part}
pub use Rattle.std.specs.List.{filter_map, list_any, range_with_len}
pub use Rattle.std.specs.Option.{option_map}
