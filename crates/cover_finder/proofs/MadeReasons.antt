-- Where no certificate is made of all minimal covers, there is a reason why the claim may stay open.
use Rattle.std.proofs.Common.{◌≡◌, ℕ, zero, suc, ◌+◌, ◌-◌, ◌<◌, ◌≤◌, ℤ, pos, ◌+ℤ◌, ◌≤ℤ◌, false, List, [], ◌∷◌, ◌++◌, length, map, Some, get_or, take, refl, sym, ap, ◌∙◌, subst, arith, inl, inr, ⊎_elim, slice_get, sum_by}
use Rattle.std.proofs.lemmas.Int.{ints}
use Rattle.std.proofs.lemmas.List.{get_or-map, length-map, take-map}
use Rattle.std.proofs.lemmas.List.Folds.{fold-map}
use Rattle.std.proofs.lemmas.List.Sums.{sum_by_more_le, sum_by_push}
use Rattle.std.proofs.lemmas.Option.{same_Some}
use Rattle.certificate.specs.Certificate.{piece_data}
use Rattle.cover_finder.specs.Common.{AreLeastCovers, Case, CaseData, ClaimData, Exchange, Groups, HasSmallCover, PieceData, case_data, end_after, holds, max_pieces}
use Rattle.cover_finder.specs.Made.{AreCasesOf, HasTooMany, HasUnshown, IsCaseOf, IsNotMade, StopShort, pieces_in}
use Rattle.cover_finder.specs.Open.{AreLongest, HasManyPieces, IsNearlyOff, LiesInside, MayStayOpen}
use Rattle.cover_finder.specs.Reach.{IsStopOf, ends_of}
use Rattle.cover_finder.specs.declared.reach.Stop.{Stop}
use Rattle.cover_finder.specs.declared.reach.Stop.TheVariants as stop
use Rattle.cover_finder.proofs.List.{each_pushed}

-- ---- one case more

module _ (claim : ClaimData) (xs : List Exchange) (covers : List Groups) where
  module _ (cases : List CaseData) (are : AreCasesOf claim xs covers cases) (out : Groups)
      (stands : slice_get covers (length cases) ≡ Some out) where
    pub cases_more : (case : CaseData) → IsCaseOf claim xs out case → AreCasesOf claim xs covers (cases ++ case ∷ [])
    cases_more case is k o c at_o at_c =
        each_pushed (λ (j : ℕ) (x : CaseData). (g : Groups) → slice_get covers j ≡ Some g → IsCaseOf claim xs g x)
        cases case (λ j x at g at_g. are j g x at_g at)
        (λ g at_g. subst (λ (h : Groups). IsCaseOf claim xs h case) (same_Some out g (sym stands ∙ at_g)) is)
        k c at_c o at_o

    -- where the pieces of the next case don't reach the end
    pub stopped : (pieces : List PieceData) (left : ℕ) (stops : Stop) → (stops ≡ stop.End → ⊥)
        → AreLongest claim xs (holds out) claim.first (ends_of pieces)
        → IsStopOf claim xs (holds out) left (ends_of pieces) stops → pieces_in cases + left ≡ max_pieces
        → StopShort claim xs covers
    stopped pieces left stop.End other longest is as_many = absurd (other refl)
    stopped pieces left (stop.Unshown readings) other longest is as_many = inl (record {
      number = length cases;
      out = out;
      stands = stands;
      pieces = pieces;
      readings = readings;
      stops = is;
    })
    stopped pieces left stop.Full other longest is as_many = inr (record {
      cases = cases;
      are = are;
      out = out;
      stands = stands;
      pieces = pieces;
      longest = longest;
      left = left;
      full = is;
      as_many = as_many;
    })

-- ---- too many pieces

-- the ends of the pieces of each case
abbrev ends_in : List CaseData → List (List ℤ)
ends_in cases = map (λ case. ends_of case.pieces) cases

ends_counted : (pieces : List PieceData) → length (ends_of pieces) ≡ length pieces
ends_counted pieces = length-map pieces (λ piece. pos piece.upto)

all_counted : (cases : List CaseData) → sum_by length (ends_in cases) ≡ pieces_in cases
all_counted cases =
    fold-map (λ (n : ℕ) (ends : List ℤ). n + length ends) (λ (case : CaseData). ends_of case.pieces) 0 cases
    ∙ (λ i. sum_by (λ (case : CaseData). ends_counted case.pieces i) cases)

mapped_at : {A B : Type 0} (f : A → B) (xs : List A) (k : ℕ) (y : B) → slice_get (map f xs) k ≡ Some y
    → (x : A) × (slice_get xs k ≡ Some x) × (f x ≡ y)
mapped_at f [] k y at = absurd cc
mapped_at f (x ∷ xs) zero y at = (x, refl, same_Some (f x) y at)
mapped_at f (x ∷ xs) (suc k) y at = mapped_at f xs k y at

-- ---- why it may stay open

module _ (claim : ClaimData) (xs : List Exchange) (covers : List Groups)
    (least : AreLeastCovers claim xs covers) where
  many_pieces : HasTooMany claim xs covers → HasManyPieces claim xs
  many_pieces many = record {
    covers = covers;
    are = least;
    done = ends_in many.cases;
    each = λ k out ends at_out at_ends.
        let found = mapped_at (λ (case : CaseData). ends_of case.pieces) many.cases k ends at_ends in
        let is = many.are k out found.0 at_out found.1 in
        subst (λ (e : List ℤ). AreLongest claim xs (holds out) claim.first e
        × (end_after claim.first e ≡ claim.last)) found.2 (is.longest, is.reach.with_span);
    next = many.out;
    stands = subst (λ (n : ℕ). slice_get covers n ≡ Some many.out)
        (sym (length-map many.cases (λ (case : CaseData). ends_of case.pieces))) many.stands;
    begun = ends_of many.pieces;
    longest = many.longest;
    before = many.full.before;
    as_many = omega (arith, all_counted many.cases, many.full.as_many, many.as_many);
  }

  -- what the law says of a tick that isn't shown
  abbrev pub IsOffWhereUnshown : Type 0
  IsOffWhereUnshown = (k : ℕ) (out : Groups) (begin end : ℤ) → slice_get covers k ≡ Some out
      → claim.first ≤ℤ begin → begin ≤ℤ end → end ≤ℤ claim.last → end ≤ℤ (begin +ℤ pos 1)
      → LiesInside claim xs (holds out) begin end false → IsNearlyOff claim xs

  module _ (law : IsOffWhereUnshown) where
    nearly_off : HasUnshown claim xs covers → IsNearlyOff claim xs
    nearly_off unshown =
        let at = unshown.stops in
        law unshown.number unshown.out (pos at.begin) (pos at.end) unshown.stands at.from_first
        (let up = at.in_order in omega (arith, ints)) at.to_last (let tick = at.one_tick in omega (arith, ints))
        at.not_shown

    pub may_stay_open : IsNotMade claim xs covers → HasSmallCover claim xs → MayStayOpen claim xs
    may_stay_open not_made small = ⊎_elim
        (λ many. inr (inl (record { covers = covers; are = least; many = many })))
        (λ short. ⊎_elim (λ unshown. inl (nearly_off unshown)) (λ many. inr (inr (many_pieces many))) short)
        (not_made small)

-- ---- pieces that are left

pub fewer_left : (cases : List CaseData) (case : CaseData) (left n : ℕ) → pieces_in cases + left ≡ max_pieces
    → length case.pieces ≡ n → n ≤ left → pieces_in (cases ++ case ∷ []) + (left - n) ≡ max_pieces
fewer_left cases case left n so_far is few =
    omega (arith, sum_by_push (λ (x : CaseData). length x.pieces) cases case)

-- if a case has more pieces than are left, all cases have more than may be
pub none_fewer : (cases : List Case) (k : ℕ) (case : Case) (left : ℕ) → k < length cases → case ≡ get_or cases k case
    → left + pieces_in (map case_data (take k cases)) ≡ max_pieces → left < length case.pieces.items
    → pieces_in (map case_data cases) ≤ max_pieces → ⊥
none_fewer cases k case left below is so_far less few =
    let count : CaseData → ℕ = λ x. length x.pieces in
    let all = sum_by_more_le count (map case_data cases) k (case_data case)
    (omega (arith, length-map cases case_data)) in
    let front = ap (sum_by count) (take-map case_data k cases) in
    let here = ap count (get_or-map case_data cases k case (case_data case) below ∙ ap case_data (sym is)) in
    omega (arith, all, front, here, length-map case.pieces.items piece_data)
