-- A piece, with its ticks counted from the origin.
use Rattle.std.specs.Prelude.{◌≡◌, ℕ, ◌+◌, ◌-◌, ◌^◌, ◌≤◌, ℤ, List, length, Some, slice_get, All}
use Rattle.sweep.specs.Extreme.{IsFromOrigin}
use Rattle.sweep.specs.Pieces.{IsPieceAt}
use Rattle.sweep.specs.declared.unsigned_stretch.UnsignedStretch.{UnsignedStretch}

-- its ends, counted from the origin
pub record IsStretchOf (p q : ℤ) (stretch : UnsignedStretch) : Type 0 where
  pub begin : IsFromOrigin p stretch.begin
  pub end : IsFromOrigin q stretch.end

-- within 2^64 ticks of zero, and in order
pub record IsLawfulStretch (stretch : UnsignedStretch) : Type 0 where
  pub begins : 2 ^ 75 ≤ stretch.begin + 2 ^ 64
  pub in_order : stretch.begin ≤ stretch.end
  pub ends : stretch.end ≤ 2 ^ 75 + 2 ^ 64

-- no middle of a stretch is before that of one before it
abbrev pub MiddlesRise : List UnsignedStretch → Type 0
MiddlesRise stretches = (i j : ℕ) (a b : UnsignedStretch) → i ≤ j → slice_get stretches i ≡ Some a →
    slice_get stretches j ≡ Some b → a.begin + a.end ≤ b.begin + b.end

-- the stretches of pieces
pub record AreStretchesOf (first : ℤ) (ends : List ℤ) (stretches : List UnsignedStretch)
    : Type 0 where
  pub as_many : length stretches ≡ length ends
  pub each : (k : ℕ) (p q : ℤ) (stretch : UnsignedStretch) → IsPieceAt first ends k p q →
      slice_get stretches k ≡ Some stretch → IsStretchOf p q stretch
  pub lawful : All IsLawfulStretch stretches
  pub rise : MiddlesRise stretches

-- the same with time running backwards
abbrev pub mirrored_stretch : UnsignedStretch → UnsignedStretch
mirrored_stretch stretch = record { begin = 2 ^ 76 - stretch.end; end = 2 ^ 76 - stretch.begin }
