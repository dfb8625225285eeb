-- What a server's samples say about the client's error throughout a piece of the span.
--
-- A piece runs from one reading of the clock to another, both included. A sample bounds the error
-- at a reading in its window. At a reading of the piece the error differs from
-- that by the widening of the distance at most, and the distance is never more than the greatest
-- one between the window and the piece: from the window's begin to the piece's end, or from the
-- piece's begin to the window's end.
use Rattle.std.specs.Prelude.{ℕ, ◌^◌, ℤ, pos, ◌+ℤ◌, ◌-ℤ◌, ◌≤ℤ◌, ◌<ℤ◌, unsigned_abs}
use Rattle.span_cover.specs.Common.{int_max, Interval, Sample, widening}

-- a piece of Unix ticks of 32 bits of seconds
pub record IsPiece (p q : ℤ) : Type 0 where
  pub from_zero : pos 0 ≤ℤ p
  pub in_order : p ≤ℤ q
  pub in_range : q <ℤ pos (2 ^ 64)

-- the greatest distance between a reading in from..to and one in p..q
abbrev pub farthest : ℤ → ℤ → ℤ → ℤ → ℤ
farthest from to p q = int_max (q -ℤ from) (to -ℤ p)

-- the most that the error changes between a window and a piece
abbrev pub change : ℤ → ℤ → ℤ → ℤ → ℕ → ℤ
change from to p q ppb = pos (widening ppb (unsigned_abs (farthest from to p q)))

-- the sample's low end, moved down for the piece
unfoldable pub moved_low : Sample → ℤ → ℤ → ℕ → ℤ
moved_low sample p q ppb = sample.low -ℤ change sample.low_from sample.low_to p q ppb

-- the sample's high end, moved up for the piece
unfoldable pub moved_high : Sample → ℤ → ℤ → ℕ → ℤ
moved_high sample p q ppb = sample.high +ℤ change sample.high_from sample.high_to p q ppb

-- the interval of the piece, of a sample for the low end and one for the high end
abbrev pub piece_interval_of : Sample → Sample → ℤ → ℤ → ℕ → Interval
piece_interval_of low high p q ppb = record {
  lo = moved_low low p q ppb;
  hi = moved_high high p q ppb;
}
