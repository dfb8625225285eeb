-- A case has no fault exactly if its pieces show the bound over the span.
use Rattle.std.specs.Ordering.{int_eq}
use Rattle.intersection.specs.Hull.{hull_of}
use Rattle.intersection.specs.declared.kinds.Hull.{Hull}
use Rattle.intersection.specs.declared.kinds.Hull.TheVariants.{Empty, Unbounded}
use Rattle.intersection.specs.declared.kinds.Interval.{Interval}
use Rattle.checker.proofs.VerdictPieces.{inside_from, none_from_inside}
use Rattle.checker.specs.Verdict.{hull_fault}
use Rattle.checker.specs.declared.verdict.Why.{Why}
use Rattle.checker.specs.declared.verdict.Why.TheVariants.{Cut, Uncovered}
use Rattle.span_cover.specs.Group.{piece_hull}
use Rattle.std.specs.Option.{option_map}
use Rattle.std.proofs.lemmas.List.Elements.{All-cons}
use Rattle.cover_checker.proofs.Common.{◌≡◌, ℕ, zero, suc, ◌+◌, ◌-◌, ◌<◌, ℤ, pos, ◌≤ℤ◌, Bool, true, false, cond, ◌&&◌, ◌||◌, int_lt, nat_lt, List, [], ◌∷◌, length, Option, Some, None, Result, Ok, Err, refl, sym, subst, ap, ◌∙◌, arith, ints, nat_tests, rules, All, All-nil, cond-false, slice_get, AreAnswered, CaseData, ClaimData, CoverCertificateData, Exchange, PieceData, Part, Stretch, Bounded, CaseHolds, IsAccepted, IsConflict, IsHull, Of, PieceWhy, ShowBound, begin_of, group_intervals, last_end, names, parts_after, size_of}
use Rattle.cover_checker.specs.Case.{cases_why, first_of}
use Rattle.cover_checker.specs.Verdict.{case_fault, case_faults, parts_why, piece_why, pieces_why}

-- the laws that the argument stands on
pub record Laws : Type 0 where
  pub hull : (list : List Interval) (f : ℕ) → IsHull list f (hull_of list f)
  pub one : (list : List Interval) (f : ℕ) (first second : Hull) → IsHull list f first → IsHull list f second
      → first ≡ second

-- nothing is found exactly if the first has no fault and nothing is found in the rest
pub none_first : {W : Type 0} (k : ℕ) (fault : Option W) (rest : Option (ℕ × W)) → first_of k fault rest ≡ None
    → (fault ≡ None) × (rest ≡ None)
none_first k None rest e = (refl, e)
none_first k (Some why) rest e = absurd cc

none_mapped : (o : Option Why) → option_map Of o ≡ None → o ≡ None
none_mapped None e = refl
none_mapped (Some why) e = absurd cc

module _ (laws : Laws) (claim : ClaimData) (xs : List Exchange) where
  module _ (out : ℕ → Bool) where
    abbrev few : ℕ
    few = claim.false_max - size_of claim out

    -- ---- one piece

    shows_hull : (stretch : Stretch) (entries : List (ℕ × ℕ)) (parts : List Part) (hull : Hull)
        → parts_after claim xs out stretch [] entries ≡ Ok parts → piece_hull claim.groups few parts ≡ hull
        → hull_fault claim.bound hull ≡ None → stretch.begin ≤ℤ stretch.end → stretch.end ≤ℤ claim.last
        → ShowBound claim xs out stretch entries
    shows_hull stretch entries parts Unbounded said is e forward in_span = absurd cc
    shows_hull stretch entries parts Empty said is e forward in_span = absurd cc
    shows_hull stretch entries parts (Bounded lo hi) said is e forward in_span =
        let ends = inside_from claim.bound lo hi e in
        record {
          forward = forward;
          in_span = in_span;
          parts = parts;
          said = said;
          lo = lo;
          hi = hi;
          hull = subst (λ (h : Hull). IsHull (group_intervals claim.groups parts) few h) is
              (laws.hull (group_intervals claim.groups parts) few);
          above = ends.0;
          below = ends.1;
        }

    shows_parts : (stretch : Stretch) (entries : List (ℕ × ℕ)) (read : Result (List Part) PieceWhy)
        → parts_after claim xs out stretch [] entries ≡ read → parts_why claim out read ≡ None
        → stretch.begin ≤ℤ stretch.end → stretch.end ≤ℤ claim.last → ShowBound claim xs out stretch entries
    shows_parts stretch entries (Err why) is e forward in_span = absurd cc
    shows_parts stretch entries (Ok parts) is e forward in_span =
        shows_hull stretch entries parts (piece_hull claim.groups few parts) is refl (none_mapped _ e) forward in_span

    shows_cut : (begin : ℤ) (piece : PieceData) (cut : Bool)
        → (int_lt (pos piece.upto) begin || int_lt claim.last (pos piece.upto)) ≡ cut
        → cond cut (Some (Of Cut)) (parts_why claim out
        (parts_after claim xs out (record { begin = begin; end = pos piece.upto }) [] piece.entries)) ≡ None
        → ShowBound claim xs out (record { begin = begin; end = pos piece.upto }) piece.entries
    shows_cut begin piece true is e = absurd cc
    shows_cut begin piece false is e =
        shows_parts (record { begin = begin; end = pos piece.upto }) piece.entries _ refl e
        (grind (arith, ints, nat_tests)) (grind (arith, ints, nat_tests))

    shows : (begin : ℤ) (piece : PieceData) → piece_why claim xs out begin piece ≡ None
        → ShowBound claim xs out (record { begin = begin; end = pos piece.upto }) piece.entries
    shows begin piece e = shows_cut begin piece _ refl e

    passes : (begin : ℤ) (piece : PieceData)
        → ShowBound claim xs out (record { begin = begin; end = pos piece.upto }) piece.entries
        → piece_why claim xs out begin piece ≡ None
    passes begin piece shown =
        let stretch : Stretch = record { begin = begin; end = pos piece.upto } in
        let forward = shown.forward in
        let in_span = shown.in_span in
        let list = group_intervals claim.groups shown.parts in
        let hull : hull_of list few ≡ Bounded shown.lo shown.hi =
        laws.one list few (hull_of list few) (Bounded shown.lo shown.hi) (laws.hull list few) shown.hull in
        cond-false (int_lt (pos piece.upto) begin || int_lt claim.last (pos piece.upto)) (Some (Of Cut))
        (parts_why claim out (parts_after claim xs out stretch [] piece.entries)) (grind (arith, ints))
        ∙ ap (parts_why claim out) shown.said
        ∙ ap (λ (h : Hull). option_map Of (hull_fault claim.bound h)) hull
        ∙ ap (option_map Of) (none_from_inside claim.bound shown.lo shown.hi shown.above shown.below)

    -- ---- the pieces

    ends_test : (k : ℕ) (begin : ℤ) (t : Bool) → (nat_lt 0 k && int_eq begin claim.last) ≡ t
        → cond {A = Option (ℕ × PieceWhy)} t None (Some (k, Of Uncovered)) ≡ None → (0 < k) × (begin ≡ claim.last)
    ends_test k begin true is e = search rules
    ends_test k begin false is e = absurd cc

    ends_from : (k : ℕ) (begin : ℤ) (pieces : List PieceData) → pieces_why claim xs out k begin pieces ≡ None
        → (0 < k + length pieces) × (last_end begin pieces ≡ claim.last)
    ends_from k begin [] e = let parts = ends_test k begin _ refl e in (omega (arith, parts.0), parts.1)
    ends_from k begin (piece ∷ pieces) e =
        let step = none_first k (piece_why claim xs out begin piece) _ e in
        let rest = ends_from (k + 1) (pos piece.upto) pieces step.1 in
        (omega arith, rest.1)

    each_shows : (m : ℕ) (begin : ℤ) (pieces : List PieceData) → pieces_why claim xs out m begin pieces ≡ None
        → (k : ℕ) (piece : PieceData) → slice_get pieces k ≡ Some piece
        → ShowBound claim xs out (record { begin = begin_of begin pieces k; end = pos piece.upto }) piece.entries
    each_shows m begin [] e k piece at = absurd cc
    each_shows m begin (first ∷ pieces) e zero piece at =
        let same : first ≡ piece = cc in
        let step = none_first m (piece_why claim xs out begin first) _ e in
        shows begin piece (ap (piece_why claim xs out begin) (sym same) ∙ step.0)
    each_shows m begin (first ∷ pieces) e (suc k) piece at =
        let step = none_first m (piece_why claim xs out begin first) _ e in
        each_shows (m + 1) (pos first.upto) pieces step.1 k piece at

    passes_on : {W : Type 0} (m : ℕ) (fault : Option W) (rest : Option (ℕ × W)) → fault ≡ None
        → first_of m fault rest ≡ rest
    passes_on m fault rest none = ap (λ (f : Option _). first_of m f rest) none

    all_show : (m : ℕ) (begin : ℤ) (pieces : List PieceData) → 0 < m + length pieces
        → last_end begin pieces ≡ claim.last
        → ((k : ℕ) (piece : PieceData) → slice_get pieces k ≡ Some piece
        → ShowBound claim xs out (record { begin = begin_of begin pieces k; end = pos piece.upto }) piece.entries)
        → pieces_why claim xs out m begin pieces ≡ None
    all_show m begin [] some ends each = search rules
    all_show m begin (piece ∷ pieces) some ends each =
        passes_on m (piece_why claim xs out begin piece) (pieces_why claim xs out (m + 1) (pos piece.upto) pieces)
        (passes begin piece (each 0 piece refl))
        ∙ all_show (m + 1) (pos piece.upto) pieces (omega arith) ends (λ k next at. each (suc k) next at)

  -- ---- the cases

  pub holds_from : (case : CaseData) → case_fault claim xs case ≡ None → CaseHolds claim xs case
  holds_from case e =
      let ends = ends_from (names case) 0 claim.first case.pieces e in
      record {
        some_piece = omega (arith, ends.0);
        ends_with_span = ends.1;
        each = each_shows (names case) 0 claim.first case.pieces e;
      }

  pub none_from : (case : CaseData) → CaseHolds claim xs case → case_fault claim xs case ≡ None
  none_from case holds =
      all_show (names case) 0 claim.first case.pieces (omega (arith, holds.some_piece)) holds.ends_with_span holds.each

  pub all_hold : (k : ℕ) (cases : List CaseData) → case_faults claim xs k cases ≡ None
      → All (CaseHolds claim xs) cases
  all_hold k [] e = All-nil (CaseHolds claim xs)
  all_hold k (case ∷ cases) e =
      let step = none_first k (case_fault claim xs case) _ e in
      All-cons (CaseHolds claim xs) case cases (holds_from case step.0) (all_hold (k + 1) cases step.1)

  pub none_fails : (k : ℕ) (cases : List CaseData)
      → ((c : ℕ) (case : CaseData) → slice_get cases c ≡ Some case → CaseHolds claim xs case)
      → case_faults claim xs k cases ≡ None
  none_fails k [] each = refl
  none_fails k (case ∷ cases) each =
      ap (λ (f : Option (ℕ × PieceWhy)). first_of k f (case_faults claim xs (k + 1) cases))
      (none_from case (each 0 case refl))
      ∙ none_fails (k + 1) cases (λ c next at. each (suc c) next at)

  -- ---- the certificate

  pub accepted : (certificate : CoverCertificateData) → All (IsConflict claim xs) certificate.conflicts
      → 0 < length certificate.cases → cases_why claim [] certificate.cases ≡ None → AreAnswered claim xs certificate
      → case_faults claim xs 0 certificate.cases ≡ None → IsAccepted claim xs certificate
  accepted certificate conflicts some fit answered none = record {
    conflicts = conflicts;
    some_case = some;
    fit = fit;
    answered = answered;
    each = all_hold 0 certificate.cases none;
  }
