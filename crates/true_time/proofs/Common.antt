-- What the proofs of this crate name from elsewhere.
pub use Rattle.std.proofs.Common.{All, List, [], ◌∷◌, None, Option, Some, ap, append_assoc, arith, drop, inl, inr, length, map}
pub use Rattle.std.proofs.Common.{pos, refl, set, slice_get, subst, suc, sym, take, zero, ⊎_elim, ℕ, ℤ, ◌*ℤ◌, ◌++◌, ◌⊎◌}
pub use Rattle.std.proofs.Common.{◌-ℤ◌, ◌∙◌, ◌≡◌, ◌≤ℤ◌}
pub use mir.Syntax.{w128}
pub use Rattle.std.proofs.lemmas.Int.{ints, to_z-of_z}
pub use Rattle.std.proofs.lemmas.Option.{get_or_from_slice_get, same_Some, slice_get_read}
pub use Rattle.audit_text.specs.Table.{rows_from}
pub use Rattle.true_time.specs.Common.{AreSamplesOf, AreTablesFor, Bounded, ClaimData, Course, Empty, Fits, HoldsError, Hull, IsLawful}
pub use Rattle.true_time.specs.Common.{IsObservedIn, ReadingData, Sample, Unbounded, best_hull, data_of, reading_data, stretch_over}
unfoldable pub use Rattle.true_time.specs.ReadingLine.{reading_line, reading_heading, readings_text}
pub use Rattle.true_time.specs.TrueTime.{HoldsTrueTime, IsThen, earliest, hull_of, latest}
