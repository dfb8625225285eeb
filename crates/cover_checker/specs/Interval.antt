-- What a low mark and a high mark say about the client's error throughout a stretch.
--
-- Of what the clock advances the error falls by at most P/(B-P) and rises by at most P/(B+P), with
-- P the rate of the drift in parts of B. At its place the error is at least a low mark's. Behind the
-- place it may have fallen since; before the place it may have had to rise to it. So a low mark is
-- moved down by the greater of two changes: of the fall from its place to the stretch's end, and of
-- the rise from the stretch's begin to its place. A high mark is moved up likewise.
use Rattle.std.specs.Prelude.{ℕ, ◌+◌, ◌-◌, ◌*◌, ℤ, pos, ◌+ℤ◌, ◌-ℤ◌, ◌*ℤ◌, ◌≤ℤ◌, unsigned_abs}
use Rattle.cover_checker.specs.Common.{int_max, ceiling_of, billion, widening, ClaimData, Exchange, Mark, Part, Stretch, low_mark, high_mark}

-- how far it is from one reading to another: nothing if the other comes first
abbrev pub ahead : ℤ → ℤ → ℤ
ahead from to = int_max (to -ℤ from) (pos 0)

-- the most that the error falls while the clock advances this far, rounded up
abbrev pub fall : ℕ → ℤ → ℤ
fall ppb distance = pos (widening ppb (unsigned_abs distance))

-- the most that it rises, rounded up
unfoldable pub rise : ℕ → ℤ → ℤ
rise ppb distance = pos (ceiling_of (ppb * unsigned_abs distance) (billion + ppb))

-- the least that the error can be at a reading of the stretch
abbrev pub low_over : ℕ → Stretch → Mark → ℤ
low_over ppb stretch mark =
    mark.error -ℤ int_max (fall ppb (ahead mark.place stretch.end))
    (rise ppb (ahead stretch.begin mark.place))

-- the greatest
abbrev pub high_over : ℕ → Stretch → Mark → ℤ
high_over ppb stretch mark =
    mark.error +ℤ int_max (rise ppb (ahead mark.place stretch.end))
    (fall ppb (ahead stretch.begin mark.place))

-- by how much a low mark and a high mark miss each other: the least that the error can be at the high
-- mark's place, by the low mark, less the high mark's
abbrev pub missed_by : ℕ → Mark → Mark → ℤ
missed_by ppb low high =
    (low.error -ℤ int_max (fall ppb (ahead low.place high.place))
    (rise ppb (ahead high.place low.place))) -ℤ high.error

-- what two exchanges of a server say, the one by its low mark and the other by its high mark
abbrev pub part_of : ClaimData → Stretch → Exchange → Exchange → Part
part_of claim stretch x y = record {
  server = x.server;
  interval = record {
    lo = low_over claim.drift_ppb stretch (low_mark claim.reading x);
    hi = high_over claim.drift_ppb stretch (high_mark claim.reading y);
  };
}

-- w is the least whole number of ticks that is not below the change, falling over one distance and
-- rising over another; a distance below 0 counts for nothing
pub record IsLeastChange (ppb : ℕ) (falling rising w : ℤ) : Type 0 where
  pub from_zero : pos 0 ≤ℤ w
  pub falls : (pos ppb *ℤ falling) ≤ℤ (pos (billion - ppb) *ℤ w)
  pub rises : (pos ppb *ℤ rising) ≤ℤ (pos (billion + ppb) *ℤ w)
  pub least : (other : ℤ) → pos 0 ≤ℤ other
      → (pos ppb *ℤ falling) ≤ℤ (pos (billion - ppb) *ℤ other)
      → (pos ppb *ℤ rising) ≤ℤ (pos (billion + ppb) *ℤ other) → w ≤ℤ other
