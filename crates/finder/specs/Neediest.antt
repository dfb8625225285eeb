-- Which tick of the span needs the widest bound where the groups of a cover have no say.
--
-- If those groups are false, as many more may be as the claim allows besides them. What all others
-- say over a tick, the piece from a reading to the next one, has a hull, and the bound that it
-- needs reaches to both its ends.
use Rattle.std.specs.Prelude.{◌≡◌, ◌⊎◌, ℕ, ◌-◌, ◌≤◌, ℤ, pos, ◌≤ℤ◌, ◌<ℤ◌, Bool, not, List, filter, slice_index, count_by, Option, Some, None, IsSomeAnd, IsTrue}
use Rattle.finder.specs.Common.{ClaimData, Hull, Unbounded, Empty, Bounded, Sample, numbers_below, piece_hull, Part, Stretch}
use Rattle.finder.specs.Entry.{best_entries, parts_named}
use Rattle.finder.specs.Envelope.{reach_of}
use Rattle.finder.specs.Fewest.{next_tick, stretch_over}
use Rattle.finder.specs.declared.neediest.Gap.{Gap}
use Rattle.finder.specs.declared.neediest.Neediest.{Neediest}
use Rattle.finder.specs.declared.neediest.TickNeed.{TickNeed}

-- how many ticks the bound of a hull has to have, if some number is enough
abbrev pub need_of : Hull → Option ℕ
need_of Unbounded = None
need_of Empty = Some 0
need_of (Bounded lo hi) = Some (reach_of lo hi)

-- so many are enough
abbrev pub NeedsAtMost : ℕ → Hull → Type 0
NeedsAtMost most hull = IsSomeAnd (need_of hull) (λ need. need ≤ most)

-- a reading of the span
pub record IsInSpan (claim : ClaimData) (p : ℤ) : Type 0 where
  pub from_first : claim.first ≤ℤ p
  pub to_last : p ≤ℤ claim.last

-- a server's group isn't one of the cover
abbrev pub has_say : List ℕ → (ℕ → Bool) → Part → Bool
has_say groups cover part = not (cover (slice_index groups part.server))

module _ (samples : List Sample) (claim : ClaimData) (cover : ℕ → Bool) where
  -- the hull over a stretch of what the servers of all other groups say by their best samples
  unfoldable pub hull_without : Stretch → Hull
  hull_without stretch =
      piece_hull claim.groups (claim.false_max - count_by cover (numbers_below 32))
      (filter (has_say claim.groups cover)
      (parts_named samples claim stretch (best_entries samples claim stretch)))

  -- the same over the tick from a reading on, or over the span's last moment
  abbrev pub tick_without : ℤ → Hull
  tick_without p = hull_without (stretch_over p (next_tick samples claim p))

  -- no tick of the span needs more
  abbrev pub NoneNeedsMore : ℕ → Type 0
  NoneNeedsMore most = (p : ℤ) → IsInSpan claim p → NeedsAtMost most (tick_without p)

  -- a tick of the span needs so many ticks; and if the search came to its end, none needs more
  pub record IsNeediest (found : Neediest) : Type 0 where
    pub in_span : IsInSpan claim (pos found.tick.begin)
    pub need : need_of (tick_without (pos found.tick.begin)) ≡ Some found.tick.ticks
    pub most : IsTrue found.is_whole → NoneNeedsMore found.tick.ticks

  -- for some tick of the span no bound is enough
  abbrev pub IsBoundless : Type 0
  IsBoundless = (p : ℤ) × IsInSpan claim p × (tick_without p ≡ Unbounded)

-- ---- gaps

-- a gap of the span
pub record IsGap (claim : ClaimData) (gap : Gap) : Type 0 where
  pub from_first : claim.first ≤ℤ pos gap.first.begin
  pub in_order : gap.first.begin ≤ gap.last.begin
  pub to_last : pos gap.last.begin ≤ℤ claim.last

-- a tick begins between those at its ends
abbrev pub IsWithin : Gap → ℤ → Type 0
IsWithin gap p = (pos gap.first.begin <ℤ p) × (p <ℤ pos gap.last.begin)

-- a tick of a gap splits it into these two, in the one order or the other
abbrev pub gap_between : TickNeed → TickNeed → Gap
gap_between first last = record { first = first; last = last }

abbrev pub AreHalves : Gap → TickNeed → Gap → Gap → Type 0
AreHalves gap tick a b =
    ((a ≡ gap_between gap.first tick) × (b ≡ gap_between tick gap.last))
    ⊎ ((a ≡ gap_between tick gap.last) × (b ≡ gap_between gap.first tick))
