-- What a verdict says about the pieces.
use Rattle.checker.proofs.Common.{◌≡◌, ℕ, suc, ◌+◌, ◌<◌, ℤ, pos, neg_ℤ, ◌≤ℤ◌, Bool, true, false, cond, ◌&&◌, ◌||◌, int_le, int_lt, nat_lt, List, [], ◌∷◌, ◌++◌, length, Option, Some, None, Result, Ok, Err, inl, inr, refl, sym, ap, ◌∙◌, subst, arith, slice_get, int_eq, ints, cond-true, nat_tests, PieceData, ClaimData, Hull, Unbounded, Empty, Bounded, Sample, piece_hull, begin_of, last_end, IsOfHull, parts_after, unless_refused, hull_fault, parts_fault, piece_fault, verdict_after, verdict_from, Part, Stretch, Verdict, Yes, No, Why, Cut, Contradiction, Exceeds, Uncovered, IsRefusedEntry, int_le-true, rules}
use Rattle.checker.proofs.Part.{says, refused}

exceeds_or_none : (t : Bool) → cond t None (Some Exceeds) ≡ Some Contradiction → ⊥
exceeds_or_none true e = absurd cc
exceeds_or_none false e = absurd cc

passed : (t : Bool) → cond t None (Some Exceeds) ≡ None → t ≡ true
passed true e = refl
passed false e = absurd cc

pub empty_hull : (bound : ℤ) (hull : Hull) → hull_fault bound hull ≡ Some Contradiction → hull ≡ Empty
empty_hull bound Unbounded e = absurd cc
empty_hull bound Empty e = refl
empty_hull bound (Bounded lo hi) e = absurd (exceeds_or_none (int_le (neg_ℤ bound) lo && int_le hi bound) e)

-- a bounded hull gives no fault exactly if it lies inside the bound
pub inside_from : (bound lo hi : ℤ) → hull_fault bound (Bounded lo hi) ≡ None
    → (neg_ℤ bound ≤ℤ lo) × (hi ≤ℤ bound)
inside_from bound lo hi e = grind (arith, ints, nat_tests, passed, int_le-true)

pub none_from_inside : (bound lo hi : ℤ) → neg_ℤ bound ≤ℤ lo → hi ≤ℤ bound
    → hull_fault bound (Bounded lo hi) ≡ None
none_from_inside bound lo hi above below = grind (arith, ints, nat_tests, cond-true)

-- a fault that a hull gives, or none
abbrev pub IsFromHull : Option Why → Type 0
IsFromHull None = Unit {0}
IsFromHull (Some Contradiction) = Unit {0}
IsFromHull (Some Exceeds) = Unit {0}
IsFromHull _ = ⊥

pub from_hull : (why : Why) → IsOfHull why → IsFromHull (Some why)
from_hull why (inl is) = rw is tt
from_hull why (inr is) = rw is tt

module _ (samples : List Sample) (claim : ClaimData) where
  -- none of these entries is refused, and their hull over a stretch gives this fault, or none
  pub record HullGives (stretch : Stretch) (entries : List (ℕ × ℕ)) (fault : Option Why) : Type 0 where
    pub parts : List Part
    pub said : parts_after samples stretch claim.drift_ppb [] entries ≡ Ok parts
    pub gives : hull_fault claim.bound (piece_hull claim.groups claim.false_max parts) ≡ fault

  -- ---- one piece

  -- no entry is refused for a reason that a hull gives
  not_from_hull : (why : Why) → IsRefusedEntry why → IsFromHull (Some why) → ⊥
  not_from_hull why (inl is) from = rw is at from
  not_from_hull why (inr (inl is)) from = rw is at from
  not_from_hull why (inr (inr is)) from = rw is at from

  refused_step : (stretch : Stretch) (earlier : List Part) (entries : List (ℕ × ℕ)) (why : Why)
      (first : Result Part Why) → (first ≡ Err why → IsRefusedEntry why)
      → ((part : Part) → parts_after samples stretch claim.drift_ppb (earlier ++ part ∷ []) entries ≡ Err why
      → IsRefusedEntry why)
      → unless_refused first (λ part. parts_after samples stretch claim.drift_ppb (earlier ++ part ∷ []) entries)
      ≡ Err why
      → IsRefusedEntry why
  refused_step stretch earlier entries why (Err other) here rest e = grind (arith, ints, nat_tests)
  refused_step stretch earlier entries why (Ok part) here rest e = rest part e

  refused_parts : (stretch : Stretch) (earlier : List Part) (entries : List (ℕ × ℕ)) (why : Why)
      → parts_after samples stretch claim.drift_ppb earlier entries ≡ Err why → IsRefusedEntry why
  refused_parts stretch earlier [] why e = absurd cc
  refused_parts stretch earlier (entry ∷ entries) why e =
      refused_step stretch earlier entries why (says samples stretch claim.drift_ppb earlier entry)
      (refused stretch claim.drift_ppb earlier (slice_get samples entry.0) (slice_get samples entry.1) why)
      (λ part e'. refused_parts stretch (earlier ++ part ∷ []) entries why e') e

  parts_tested : (stretch : Stretch) (entries : List (ℕ × ℕ)) (said : Result (List Part) Why) (fault : Option Why)
      → IsFromHull fault → parts_after samples stretch claim.drift_ppb [] entries ≡ said
      → parts_fault claim said ≡ fault → HullGives stretch entries fault
  parts_tested stretch entries (Err why) fault from is e = grind (arith, ints, nat_tests, not_from_hull, refused_parts)
  parts_tested stretch entries (Ok parts) fault from is e = record { parts = parts; said = is; gives = e }

  cut_tested : (stretch : Stretch) (entries : List (ℕ × ℕ)) (cut : Bool) (fault : Option Why) → IsFromHull fault
      → cond cut (Some Cut) (parts_fault claim (parts_after samples stretch claim.drift_ppb [] entries)) ≡ fault
      → (cut ≡ false) × HullGives stretch entries fault
  cut_tested stretch entries true fault from e = absurd (subst IsFromHull (sym e) from)
  cut_tested stretch entries false fault from e = (refl, parts_tested stretch entries _ fault from refl e)

  -- a piece that passes all tests, or fails at its hull: its stretch is in order, and its entries are taken
  pub tested : (begin : ℤ) (piece : PieceData) (fault : Option Why) → IsFromHull fault
      → piece_fault samples claim begin piece ≡ fault
      → ((begin ≤ℤ pos piece.upto) × (pos piece.upto ≤ℤ claim.last))
      × HullGives (record { begin = begin; end = pos piece.upto }) piece.entries fault
  tested begin piece fault from e =
      grind (
        arith,
        ints,
        cut_tested (record { begin = begin; end = pos piece.upto }) piece.entries (int_lt
            (pos piece.upto) begin || int_lt claim.last (pos piece.upto)) fault from e,
      )

  -- ---- all pieces

  pub yes_step : (k : ℕ) (fault : Option Why) (rest : Verdict) → verdict_after fault k rest ≡ Yes
      → (fault ≡ None) × (rest ≡ Yes)
  yes_step k None rest e = (refl, e)
  yes_step k (Some why) rest e = absurd cc

  covers_test : (k : ℕ) (begin : ℤ) → cond (nat_lt 0 k && int_eq begin claim.last) Yes (No k Uncovered) ≡ Yes
      → (0 < k) × (begin ≡ claim.last)
  covers_test k begin e = search rules

  -- if the verdict is yes, the pieces end with the span
  pub yes_end : (k : ℕ) (begin : ℤ) (pieces : List PieceData) → verdict_from samples claim k begin pieces ≡ Yes
      → (0 < k + length pieces) × (last_end begin pieces ≡ claim.last)
  yes_end k begin [] e = let parts = covers_test k begin e in (omega (arith, parts.0), parts.1)
  yes_end k begin (piece ∷ pieces) e =
      let step = yes_step k (piece_fault samples claim begin piece) _ e in
      let rest = yes_end (k + 1) (pos piece.upto) pieces step.1 in
      (omega arith, rest.1)

  -- ---- no

  -- the first piece that fails, by its number
  pub record FailsAt (first k : ℕ) (begin : ℤ) (pieces : List PieceData) (why : Why) : Type 0 where
    pub place : ℕ
    pub counted : k ≡ first + place
    pub piece : PieceData
    pub stands : slice_get pieces place ≡ Some piece
    pub fails : piece_fault samples claim (begin_of begin pieces place) piece ≡ Some why

  uncovered_test : (first k : ℕ) (covered : Bool) (why : Why) → IsFromHull (Some why)
      → cond covered Yes (No first Uncovered) ≡ No k why → ⊥
  uncovered_test first k true why from e = absurd cc
  uncovered_test first k false why from e = let same : why ≡ Uncovered = cc in rw same at from

  no_step : (first k : ℕ) (begin : ℤ) (piece : PieceData) (pieces : List PieceData) (why : Why) (fault : Option Why)
      (rest : Verdict) → piece_fault samples claim begin piece ≡ fault
      → verdict_after fault first rest ≡ No k why
      → (rest ≡ No k why → FailsAt (first + 1) k (pos piece.upto) pieces why)
      → FailsAt first k begin (piece ∷ pieces) why
  no_step first k begin piece pieces why None rest is e later =
      let found = later e in
      record {
        place = suc found.place;
        counted = omega (arith, found.counted);
        piece = found.piece;
        stands = found.stands;
        fails = found.fails;
      }
  no_step first k begin piece pieces why (Some fault) rest is e later =
      let same : fault ≡ why = cc in
      let number : first ≡ k = cc in
      record {
        place = 0;
        counted = omega arith;
        piece = piece;
        stands = refl;
        fails = is ∙ ap Some same;
      }

  -- if it is no for a hull, there is a piece that fails for it
  pub no_at : (first k : ℕ) (begin : ℤ) (pieces : List PieceData) (why : Why) → IsFromHull (Some why)
      → verdict_from samples claim first begin pieces ≡ No k why → FailsAt first k begin pieces why
  no_at first k begin [] why from e = absurd (uncovered_test first k _ why from e)
  no_at first k begin (piece ∷ pieces) why from e =
      no_step first k begin piece pieces why (piece_fault samples claim begin piece) _ refl e
      (λ e'. no_at (first + 1) k (pos piece.upto) pieces why from e')
