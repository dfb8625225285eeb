-- A certificate of all conflicts, whose cases are those of all minimal covers, is accepted.
use Rattle.std.proofs.Common.{◌≡◌, ℕ, suc, ◌<◌, ◌≤◌, Bool, true, List, [], ◌∷◌, length, get_or, None, Option, Some, All, refl, sym, ap, ◌∙◌, subst, arith, inl, inr, ⊎_elim, slice_get}
use Rattle.std.specs.Prelude.{◌==◌, AllPairs, IfNone, IsSome}
use Rattle.std.specs.List.{list_any}
use Rattle.std.proofs.lemmas.Bool.{cases_lt}
use Rattle.std.proofs.lemmas.List.Sums.{length-filter}
use Rattle.std.proofs.lemmas.Option.{get_or_from_slice_get, slice_get-get_or, slice_get_within}
use Rattle.claim_file.specs.Claim.{IsLawful}
use Rattle.pairing.specs.Exchange.{IsLawful as IsLawfulExchange}
use Rattle.lemma_base.proofs.List.{All-slice_get, slice_get-below}
use Rattle.feasibility.specs.Cover.{HoldsNoLess, IsCover}
use Rattle.feasibility.specs.Groups.{AreApart, HoldsOne}
use Rattle.feasibility.proofs.MinimalCovers.{some_held}
use Rattle.finder.proofs.Liar.{passing_below, passing_differ}
use Rattle.cover_checker.specs.Acceptance.{CaseHolds, IsAccepted}
use Rattle.cover_checker.specs.Case.{groups_why}
use Rattle.cover_checker.specs.Conflict.{AreAnswered, HoldsCase, names}
use Rattle.cover_certificate.specs.declared.cover_certificate.CoverCertificate.{CoverCertificate}
use Rattle.cover_finder.specs.Common.{AreLeastCovers, CaseData, ClaimData, CoverCertificateData, Exchange, Groups, HasSmallCover, holds, numbers_below, size_of}
use Rattle.cover_finder.specs.Made.{AreAllCasesOf, IsCaseOf, IsNotMade, NameAllConflicts, numbers_of}
use Rattle.cover_finder.specs.Search.{IsCarriedBy}
use Rattle.cover_finder.proofs.MadeConflicts.{are_conflicts, ends_are_cover, few_pairs}
use Rattle.cover_finder.proofs.MadeGroups.{AreUnlike, IsFit, cases_fit, groups_fit, just_named, minimal_in_range, unlike}
use Rattle.cover_finder.proofs.ReachCases.{case_holds}

-- a set that holds one of these covers holds all groups of one of their cases
held_case : (is_in : ℕ → Bool) (covers : List Groups) (cases : List CaseData) → length cases ≡ length covers
    → ((k : ℕ) (out : Groups) (case : CaseData) → slice_get covers k ≡ Some out → slice_get cases k ≡ Some case
    → (g : ℕ) → names case g ≡ holds out g) → HoldsOne covers is_in → HoldsCase cases is_in
held_case is_in [] cases same are one = absurd one
held_case is_in (out ∷ covers) [] same are one = absurd (omega (arith, same))
held_case is_in (out ∷ covers) (case ∷ cases) same are (inl here) =
    inl (λ g named. here g (sym (are 0 out case refl refl g) ∙ named))
held_case is_in (out ∷ covers) (case ∷ cases) same are (inr later) =
    inr (held_case is_in covers cases (omega (arith, same)) (λ k. are (suc k)) later)

module _ (claim : ClaimData) (xs : List Exchange) (lawful : IsLawful claim)
    (each : All (IsLawfulExchange (length claim.servers)) xs) (covers : List Groups)
    (least : AreLeastCovers claim xs covers) where
  -- ---- the case of a minimal cover

  module _ (k : ℕ) (out : Groups) (stands : slice_get covers k ≡ Some out) where
    in_range : (g : ℕ) → holds out g ≡ true → g < length claim.groups
    in_range g is =
        minimal_in_range claim xs lawful each (holds out)
        (All-slice_get (λ (o : Groups). IsCover claim xs (holds o)) covers k out least.are stands)
        (All-slice_get (λ (o : Groups). HoldsNoLess claim xs (holds o)) covers k out least.minimal stands) g is

    small : size_of claim (holds out) ≤ claim.false_max
    small = All-slice_get (λ (o : Groups). size_of claim (holds o) ≤ claim.false_max) covers k out least.few stands

    fit_numbers : groups_why (length claim.servers) [] (numbers_of claim out) ≡ None
    fit_numbers =
        subst (λ (n : ℕ). groups_why n [] (numbers_of claim out) ≡ None) lawful.group_for_each
        (groups_fit (length claim.groups) [] (numbers_of claim out) (passing_below (holds out) (length claim.groups))
        (passing_differ (holds out) (length claim.groups)))

    few_numbers : length (numbers_of claim out) ≤ claim.false_max
    few_numbers = omega (arith, small, length-filter (holds out) (numbers_below (length claim.groups)))

    module _ (case : CaseData) (is : IsCaseOf claim xs out case) where
      pub same_groups : (g : ℕ) → names case g ≡ holds out g
      same_groups g =
          ap (λ (gs : List ℕ). list_any (λ h. h == g) gs) is.groups
          ∙ just_named (holds out) (length claim.groups) in_range g

      fit : IsFit claim case
      fit = record {
        few = subst (λ (gs : List ℕ). length gs ≤ claim.false_max) (sym is.groups) few_numbers;
        fit = subst (λ (gs : List ℕ). groups_why (length claim.servers) [] gs ≡ None) (sym is.groups) fit_numbers;
      }

      holds_case : CaseHolds claim xs case
      holds_case = case_holds claim xs (holds out) case (λ g. sym (same_groups g)) is.reach is.show

  -- ---- all of them

  module _ (cases : List CaseData) (made : AreAllCasesOf claim xs covers cases) where
    -- the cover of a case
    abbrev CoverOf : ℕ → CaseData → Type 0
    CoverOf k case = (out : Groups) × (slice_get covers k ≡ Some out) × IsCaseOf claim xs out case

    cover_of : (k : ℕ) (case : CaseData) → slice_get cases k ≡ Some case → CoverOf k case
    cover_of k case at =
        let within = slice_get_within cases k case at in
        let found = slice_get-below covers k (omega (arith, within, made.same_number)) in
        (found.0, found.1, made.are k found.0 case found.1 at)

    all_fit : All (IsFit claim) cases
    all_fit k d below =
        let case = get_or cases k d in
        let of = cover_of k case (slice_get-get_or cases k d below) in
        fit k of.0 of.1 case of.2

    all_hold : All (CaseHolds claim xs) cases
    all_hold k d below =
        let case = get_or cases k d in
        let of = cover_of k case (slice_get-get_or cases k d below) in
        holds_case k of.0 of.1 case of.2

    apart : (i j : ℕ) (one two : Groups) → i < j → slice_get covers i ≡ Some one → slice_get covers j ≡ Some two
        → AreApart one two
    apart i j one two before at_one at_two =
        subst (λ (o : Groups). AreApart o two) (get_or_from_slice_get covers i one one at_one)
        (subst (λ (o : Groups). AreApart (get_or covers i one) o) (get_or_from_slice_get covers j two one at_two)
        (least.different i j one before (slice_get_within covers j two at_two)))

    all_unlike : AllPairs AreUnlike cases
    all_unlike i j d before below =
        let one = get_or cases i d in
        let two = get_or cases j d in
        let of_one = cover_of i one (slice_get-get_or cases i d (omega arith)) in
        let of_two = cover_of j two (slice_get-get_or cases j d below) in
        unlike one two (λ within. (apart i j of_one.0 of_two.0 before of_one.1 of_two.1).forth (λ g held.
        sym (same_groups j of_two.0 of_two.1 two of_two.2 g)
        ∙ within g (same_groups i of_one.0 of_one.1 one of_one.2 g ∙ held)))

    -- ---- the certificate

    module _ (small_cover : HasSmallCover claim xs) (few : length covers < 64) (pairs : List (ℕ × ℕ))
        (named : NameAllConflicts claim xs pairs) where
      abbrev certificate : CoverCertificateData
      certificate = record { conflicts = pairs; cases = cases }

      answered : AreAnswered claim xs certificate
      answered is_in small_set ends =
          held_case is_in covers cases made.same_number
          (λ k out case at_out at_case. same_groups k out at_out case (made.are k out case at_out at_case))
          (⊎_elim (λ one. one) (λ many. absurd (omega (arith, many, few)))
          (least.all_or_64 is_in (ends_are_cover claim xs pairs named is_in ends) small_set))

      some_case : 0 < length cases
      some_case =
          let some = some_held covers small_cover.0 (least.all_or_64 small_cover.0 small_cover.1 small_cover.2) in
          omega (arith, some, made.same_number)

      accepted : IsAccepted claim xs certificate
      accepted = record {
        conflicts = are_conflicts claim xs pairs named;
        some_case = some_case;
        fit = cases_fit claim [] cases all_fit all_unlike;
        answered = answered;
        each = all_hold;
      }

      pub carried : IsCarriedBy claim xs certificate
      carried = record {
        accepted = accepted;
        few = record {
          conflicts = few_pairs claim xs lawful each pairs named;
          cases = omega (arith, few, made.same_number);
          pieces = made.few;
        };
      }

    -- so if none is found, a cover is too large, or there may be more
    pub not_made : (pairs : List (ℕ × ℕ)) → NameAllConflicts claim xs pairs → (found : Option CoverCertificate)
        → (IsCarriedBy claim xs (record { conflicts = pairs; cases = cases }) → IsSome found)
        → IfNone found (IsNotMade claim xs covers)
    not_made pairs named (Some certificate) finds = tt
    not_made pairs named None finds = λ small_cover. ⊎_elim
        (λ few. absurd (let some = finds (carried small_cover few pairs named) in cc))
        (λ many. inl many)
        (cases_lt (length covers) 64)
