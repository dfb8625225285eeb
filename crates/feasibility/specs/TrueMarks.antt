-- The marks that a course of events has to keep, if some servers are false.
--
-- What a false server says may be anything. Each other exchange leaves a low mark and a high mark,
-- and it is possible by itself. Pairs are enough: a course keeps all these marks exactly if each
-- low mark is compatible with each high mark.
use Rattle.std.specs.Prelude.{◌≡◌, ℕ, ℤ, Bool, false, not, List, map, filter, All}
use Rattle.feasibility.specs.Common.{Course, Fits, ClaimData, Exchange, low_mark, high_mark, IsPossible, AreCompatible, Mark}

-- the exchanges with servers that aren't false
abbrev pub true_exchanges : (ℕ → Bool) → List Exchange → List Exchange
true_exchanges is_false xs = filter (λ x. not (is_false x.server)) xs

-- their low marks, with a claim's allowance
abbrev pub low_marks : ℤ → (ℕ → Bool) → List Exchange → List Mark
low_marks allowance is_false xs = map (low_mark allowance) (true_exchanges is_false xs)

-- their high marks
abbrev pub high_marks : ℤ → (ℕ → Bool) → List Exchange → List Mark
high_marks allowance is_false xs = map (high_mark allowance) (true_exchanges is_false xs)

-- each of these low marks is compatible with each of these high marks
abbrev pub AreAllCompatible : ℕ → List Mark → List Mark → Type 0
AreAllCompatible ppb lows highs = All (λ low. All (AreCompatible ppb low) highs) lows

-- with just these servers false nothing contradicts: each exchange with another server is possible
-- by itself, and each of their low marks is compatible with each of their high marks
pub record DoAgree (claim : ClaimData) (is_false : ℕ → Bool) (xs : List Exchange) : Type 0 where
  pub possible : All (IsPossible claim.reading) (true_exchanges is_false xs)
  pub compatible : AreAllCompatible claim.drift_ppb (low_marks claim.reading is_false xs)
      (high_marks claim.reading is_false xs)

-- some course fits in which no server is false but these
abbrev pub FitsWithFalse : ClaimData → (ℕ → Bool) → List Exchange → Type 0
FitsWithFalse claim is_false xs = (course : Course) × Fits claim xs course
    × ((server : ℕ) → is_false server ≡ false → course.is_false server ≡ false)
