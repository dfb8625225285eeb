-- How far off the clock may have been, piece by piece, and the least bound that holds throughout.
--
-- The span is cut as for a certificate. Each piece has the best samples of its servers, and the
-- hull over their groups holds every error that these samples allow there. A bound of n nanoseconds
-- holds if every hull lies inside that many ticks to either side, rounded down. The least such n
-- says how good the clock is known to be: the claim's own bound is ignored. If a hull has no ends,
-- or nothing in it, then no bound holds.
use Rattle.std.specs.Prelude.{◌≡◌, ◌⊎◌, ℕ, zero, suc, ◌*◌, ◌<◌, ◌≤◌, ◌^◌, max, nat_lt, ⊤, if◌then◌else◌, ℤ, pos, unsigned_abs, true, List, map, All, Result, Ok, Err}
use Rattle.finder.specs.Common.{int_max, int_min, range_with_len, nanoseconds_per_second, ticks_down, ceiling_of, ticks_per_second, CertificateData, max_pieces, ClaimData, Hull, Unbounded, Empty, Bounded, Sample, IsPiece, Stretch, is_inside}
use Rattle.finder.specs.Entry.{AreNamed, best_entries}
use Rattle.finder.specs.Found.{FoundData, certificate, nothing, hull_at}
use Rattle.finder.specs.Piece.{count_of, stretch_at}
use Rattle.finder.specs.declared.envelope.Envelope.{Envelope}
use Rattle.finder.specs.declared.fault.FindFault.{FindFault}
use Rattle.finder.specs.declared.fault.FindFault.TheVariants.{TooManyPieces}
use Rattle.finder.specs.declared.least.LeastBound.{LeastBound}
use Rattle.finder.specs.declared.least.LeastBound.TheVariants.{Holds, NoneHolds}
use Rattle.finder.specs.declared.piece_hull.PieceHull.{PieceHull}

-- ---- the least bound of hulls

-- a hull lies inside a bound of this many nanoseconds
abbrev pub IsInside : ℕ → Hull → Type 0
IsInside n hull = is_inside (pos (ticks_down n)) hull ≡ true

-- a hull that lies inside no bound
abbrev pub HasNoEnds : Hull → Type 0
HasNoEnds hull = (hull ≡ Unbounded) ⊎ (hull ≡ Empty)

-- of this many pieces, each with its hull
module _ (hulls : ℕ → Hull) (count : ℕ) where
  -- all hulls lie inside a bound of n nanoseconds
  abbrev pub AreInside : ℕ → Type 0
  AreInside n = (k : ℕ) → k < count → IsInside n (hulls k)

  -- n is the least such bound
  pub record IsLeastBound (n : ℕ) : Type 0 where
    pub all_inside : AreInside n
    pub least : (m : ℕ) → AreInside m → n ≤ m

  -- piece k is the first that needs a bound of n nanoseconds: its hull lies inside no lesser one,
  -- and the hull of each piece before it does
  pub record IsFirstInNeed (n k : ℕ) : Type 0 where
    pub of_span : k < count
    pub in_need : (m : ℕ) → IsInside m (hulls k) → n ≤ m
    pub others_are_not : (j : ℕ) → j < k → (m : ℕ) × (m < n) × IsInside m (hulls j)

  -- piece k is the first of which the hull lies inside no bound
  pub record IsFirstWithout (k : ℕ) : Type 0 where
    pub of_span : k < count
    pub without : HasNoEnds (hulls k)
    pub others_have_ends : (j : ℕ) → j < k → ¬ (HasNoEnds (hulls j))

  -- the least bound and the first piece that needs it; or no bound, and the first piece without
  abbrev pub IsLeast : LeastBound → Type 0
  IsLeast (Holds n k) = IsLeastBound n × IsFirstInNeed n k
  IsLeast (NoneHolds k) = IsFirstWithout k

-- ---- the same as a function

-- how many ticks the hull from lo to hi reaches to either side of zero
abbrev pub reach_of : ℤ → ℤ → ℕ
reach_of lo hi = max (unsigned_abs (int_min lo (pos 0))) (unsigned_abs (int_max hi (pos 0)))

-- this many ticks in nanoseconds, rounded up
abbrev pub nanoseconds_of : ℕ → ℕ
nanoseconds_of ticks = ceiling_of (ticks * nanoseconds_per_second) ticks_per_second

-- the least bound of pieces with that of one more, which has number k and needs this bound
abbrev pub with_need : ℕ → ℕ → ℕ → ℕ → LeastBound
with_need n j k needed = if nat_lt n needed then Holds needed k else Holds n j

-- the least bound of pieces with one more, which has number k and this hull
abbrev pub with_piece : LeastBound → ℕ → Hull → LeastBound
with_piece (NoneHolds j) k hull = NoneHolds j
with_piece (Holds n j) k Unbounded = NoneHolds k
with_piece (Holds n j) k Empty = NoneHolds k
with_piece (Holds n j) k (Bounded lo hi) = with_need n j k (nanoseconds_of (reach_of lo hi))

-- the least bound of this many pieces, from the first on
abbrev pub least_of : (ℕ → Hull) → ℕ → LeastBound
least_of hulls zero = Holds 0 0
least_of hulls (suc n) = with_piece (least_of hulls n) n (hulls n)

-- ---- the envelope

-- a piece: its readings, the best samples of its servers, and the hull over their groups
pub record PieceHullData : Type 0 where
  pub stretch : Stretch
  pub entries : List (ℕ × ℕ)
  pub hull : Hull

pub record EnvelopeData : Type 0 where
  pub pieces : List PieceHullData
  pub least : LeastBound

-- what a value of the program says
abbrev pub piece_data : PieceHull → PieceHullData
piece_data piece = record {
  stretch = piece.stretch;
  entries = piece.entries.items;
  hull = piece.hull;
}

abbrev pub data_of : Envelope → EnvelopeData
data_of envelope = record {
  pieces = map piece_data envelope.pieces.items;
  least = envelope.least;
}

module _ (samples : List Sample) (claim : ClaimData) (step : ℕ) where
  -- piece k
  abbrev pub piece_hull_at : ℕ → PieceHullData
  piece_hull_at k = record {
    stretch = stretch_at claim step k;
    entries = best_entries samples claim (stretch_at claim step k);
    hull = hull_at samples claim step k;
  }

  -- the first n pieces
  abbrev pub piece_hulls : ℕ → List PieceHullData
  piece_hulls n = map piece_hull_at (range_with_len 0 n)

  -- the first n pieces, with their least bound
  abbrev pub envelope_to : ℕ → EnvelopeData
  envelope_to n = record {
    pieces = piece_hulls n;
    least = least_of (hull_at samples claim step) n;
  }

  -- the envelope: first the pieces are counted
  unfoldable pub envelope_of : Result EnvelopeData FindFault
  envelope_of =
      if nat_lt max_pieces (count_of claim step) then Err TooManyPieces
      else Ok (envelope_to (count_of claim step))

-- ---- a bound that is claimed

-- a certificate is found
abbrev pub IsCertified : Result FoundData FindFault → Type 0
IsCertified answer = (found : CertificateData) × (answer ≡ Ok (certificate found))

-- none is found
abbrev pub IsNotCertified : Result FoundData FindFault → Type 0
IsNotCertified answer = (piece : ℕ) × (hull : Hull) × (answer ≡ Ok (nothing piece hull))

-- ---- what whoever shows an envelope asks for

-- a piece of Unix ticks, with entries that name two of this many samples
pub record IsLawfulPiece (samples : ℕ) (piece : PieceHullData) : Type 0 where
  pub stretch : IsPiece piece.stretch.begin piece.stretch.end
  pub named : AreNamed samples piece.entries

-- the bound is a number of 127 bits
abbrev pub IsBelowLimit : LeastBound → Type 0
IsBelowLimit (Holds n k) = n < 2 ^ 127
IsBelowLimit (NoneHolds k) = ⊤

pub record IsLawfulEnvelope (samples : ℕ) (envelope : Envelope) : Type 0 where
  pub pieces : All (λ piece. IsLawfulPiece samples (piece_data piece)) envelope.pieces.items
  pub least : IsBelowLimit envelope.least
