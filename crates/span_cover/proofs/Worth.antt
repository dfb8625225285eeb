-- Numbers that are passed on, and what a sample is worth before it is moved.
use Rattle.span_cover.proofs.Common.{ℕ, ◌-◌, ◌*◌, ◌<◌, ◌≤◌, ℤ, arith, to_z, of_z, Fits, w32, w64, w128, ints, IsPiece, w128_keeps}

pub piece_kept : (p q : ℤ) → IsPiece p q → IsPiece (to_z w128 (of_z w128 p)) (to_z w128 (of_z w128 q))
piece_kept p q piece = rw (w128_keeps p (omega (arith, ints)), w128_keeps q (omega (arith, ints))) piece

-- the number before another, of a few samples
module _ (number all : ℕ) (some : 0 < number) (within : number ≤ all) where
  pub before_all : number - 1 < all
  before_all = omega arith

  pub number_fits : all ≤ 1000000 → Fits w32 (number - 1)
  number_fits few = record { fits = omega arith }

  pub place_fits : all ≤ 1000000 → Fits w64 ((number - 1) * 112)
  place_fits few = record { fits = omega arith }

pub ruleset one_before = (piece_kept, before_all, number_fits, place_fits)

pub entry_fits : (server : ℕ) → server < 32 → Fits w64 (server * 48)
entry_fits server below = record { fits = omega arith }
