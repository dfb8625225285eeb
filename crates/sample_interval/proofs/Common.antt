-- What the proofs of this crate name from elsewhere.
pub use Rattle.std.proofs.Common.{FitsSigned, List, Some, ap, arith, get_or, inl, inr, length, map, negsuc, of_z, pos}
pub use Rattle.std.proofs.Common.{refl, rules, subst, suc, sym, to_z, unsigned_abs, zero, ℕ, ℤ, ⊎_elim, ◌*ℤ◌, ◌*◌, ◌+ℤ◌}
pub use Rattle.std.proofs.Common.{◌+◌, ◌-ℤ◌, ◌-◌, ◌<◌, ◌^◌, ◌↔◌, ◌∙◌, ◌≡◌, ◌≤ℤ◌, ◌≤◌, ◌⊎◌}
pub use Rattle.std.proofs.lemmas.Int.{fits_signed_from_abs, ints, to_z-of_z, to_z_pos}
pub use Rattle.std.specs.List.{All, slice_get}
pub use Rattle.era_unfold.specs.Ratio.{IsSignedCeiling, IsSignedFloor}
pub use Rattle.intersection.specs.Fineness.{times-add, times-times, times_le}
pub use Rattle.lemma_base.proofs.Int.{w128_keeps, w128_keeps_difference}
pub use Rattle.pairing.specs.Exchange.{IsInRange, IsLawful}
pub use Rattle.pairing.specs.declared.exchange.Exchange.{Exchange}
pub use mir.Syntax.{w128}
pub use Rattle.sample_interval.specs.Exchange.{IsOfSomeClaim}
pub use Rattle.sample_interval.specs.Moment.{DriftsWithin, DriftsWithinByReading, IsOffAtLeast, IsOffAtMost}
pub use Rattle.sample_interval.specs.Moment.{IsWithinDistance, Moment, error_change}
pub use Rattle.sample_interval.specs.Sample.{IsLawfulSample, greatest_error, least_error, sample_of}
pub use Rattle.sample_interval.specs.Widening.{IsRate, IsWidening, billion}
unfoldable pub use Rattle.sample_interval.specs.Widening.{widening}
pub use Rattle.sample_interval.specs.Window.{reply_end, reply_start, request_end, request_start}
pub use Rattle.sample_interval.specs.declared.kinds.Sample.{Sample}
