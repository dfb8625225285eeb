-- What may keep a claim open though covers are looked at: an error that rounding can't be told
-- from one beyond the bound, or more covers or pieces than may be.
use Rattle.std.specs.Prelude.{◌≡◌, ⊤, ℕ, ◌+◌, ◌<◌, ◌≤◌, ℤ, pos, ◌+ℤ◌, ◌-ℤ◌, ◌*ℤ◌, ◌≤ℤ◌, ◌<ℤ◌, Bool, false, true, List, [], ◌∷◌, All, Some, ◌⊎◌, length, slice_get, sum_by, unsigned_abs}
use Rattle.cover_finder.specs.Common.{AreLeastCovers, ClaimData, Course, Exchange, Fits, Groups, Hull, IsObservedIn, error_of, holds, is_inside, max_pieces, stretch_over, end_after}
use Rattle.cover_finder.specs.Hull.{IsHullWithout}

module _ (claim : ClaimData) (xs : List Exchange) where
  -- In some course that fits, the error is a tick less than the bound, or more, when the clock
  -- shows a reading of the span. So no bound holds that is two ticks less.
  pub record IsNearlyOff : Type 0 where
    pub course : Course
    pub fits : Fits claim xs course
    pub observed : IsObservedIn course claim.first claim.last
    pub off : ((claim.bound -ℤ pos 1) *ℤ pos course.fineness)
        ≤ℤ pos (unsigned_abs (error_of course.observation))

  -- There are as many minimal covers as are looked for, so that there may be more.
  pub record HasManyCovers : Type 0 where
    pub covers : List Groups
    pub are : AreLeastCovers claim xs covers
    pub many : 64 ≤ length covers

  -- whether the hull over a stretch of what the groups say that aren't left out lies inside the
  -- bound
  pub record LiesInside (out : ℕ → Bool) (begin end : ℤ) (answer : Bool) : Type 0 where
    pub hull : Hull
    pub of : IsHullWithout claim xs (stretch_over begin end) out hull
    pub inside : is_inside claim.bound hull ≡ answer

  -- a piece from one tick to another is shown, and ends with the span, or by a tick more it isn't
  pub record IsLongest (out : ℕ → Bool) (begin end : ℤ) : Type 0 where
    pub shown : LiesInside out begin end true
    pub no_longer : (end ≡ claim.last) ⊎ LiesInside out begin (end +ℤ pos 1) false

  -- pieces of a case, one after another, end at these ticks
  abbrev pub AreLongest : (ℕ → Bool) → ℤ → List ℤ → Type 0
  AreLongest out begin [] = ⊤
  AreLongest out begin (end ∷ ends) = IsLongest out begin end × AreLongest out end ends

  -- The longest pieces of all covers, one cover after another, are more than may be: those of the
  -- first covers reach the end of the span, those of the next one don't, and there are as many of
  -- these as a certificate may have.
  pub record HasManyPieces : Type 0 where
    pub covers : List Groups
    pub are : AreLeastCovers claim xs covers
    pub done : List (List ℤ)
    pub each : (k : ℕ) (out : Groups) (ends : List ℤ) → slice_get covers k ≡ Some out
        → slice_get done k ≡ Some ends
        → AreLongest (holds out) claim.first ends × (end_after claim.first ends ≡ claim.last)
    pub next : Groups
    pub stands : slice_get covers (length done) ≡ Some next
    pub begun : List ℤ
    pub longest : AreLongest (holds next) claim.first begun
    pub before : All (λ end. end <ℤ claim.last) begun
    pub as_many : sum_by length done + length begun ≡ max_pieces

  -- what may keep it open
  abbrev pub MayStayOpen : Type 0
  MayStayOpen = IsNearlyOff ⊎ HasManyCovers ⊎ HasManyPieces
