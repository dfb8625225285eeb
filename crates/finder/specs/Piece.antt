-- The pieces of a span that is cut every so many seconds.
--
-- The first piece begins where the span does, each other one where the piece before it ends, and
-- both hold that reading. A piece ends that many seconds after its begin, or with the span. The
-- last piece is the first that ends with the span, so that a span of one moment is one piece.
use Rattle.std.specs.Prelude.{◌≡◌, ℕ, zero, suc, ◌+◌, ◌-◌, ◌*◌, ◌<◌, ◌≤◌, max, ℤ, ◌-ℤ◌, ◌<ℤ◌, unsigned_abs, List, map}
use Rattle.finder.specs.Common.{range_with_len, ceiling_of, ticks_per_second, ClaimData, piece_end_of, Stretch}

-- the longest piece, in seconds: a day
abbrev pub max_step : ℕ
max_step = 86400

-- a number of seconds that a span may be cut by
pub record IsStep (step : ℕ) : Type 0 where
  pub some : 1 ≤ step
  pub at_most_a_day : step ≤ max_step

-- this many pieces are the span: the last of them ends with it, and each before that one earlier
pub record IsPieceCount (first last : ℤ) (step n : ℕ) : Type 0 where
  pub some : 0 < n
  pub ends_with_span : piece_end_of first last step (n - 1) ≡ last
  pub first_to_end : (k : ℕ) → k + 1 < n → piece_end_of first last step k <ℤ last

-- that number: the span's length over that of a piece, rounded up, and at least one
unfoldable pub piece_count_of : ℤ → ℤ → ℕ → ℕ
piece_count_of first last step =
    max 1 (ceiling_of (unsigned_abs (last -ℤ first)) (step * ticks_per_second))

-- where piece k begins
abbrev pub piece_begin_of : ℤ → ℤ → ℕ → ℕ → ℤ
piece_begin_of first last step zero = first
piece_begin_of first last step (suc k) = piece_end_of first last step k

-- of the span of a claim: how many pieces, and the stretch of readings that piece k is
abbrev pub count_of : ClaimData → ℕ → ℕ
count_of claim step = piece_count_of claim.first claim.last step

abbrev pub stretch_at : ClaimData → ℕ → ℕ → Stretch
stretch_at claim step k = record {
  begin = piece_begin_of claim.first claim.last step k;
  end = piece_end_of claim.first claim.last step k;
}

-- the ends of the first n pieces
abbrev pub ends_of : ℤ → ℤ → ℕ → ℕ → List ℤ
ends_of first last step n = map (piece_end_of first last step) (range_with_len 0 n)
