-- Why an accepted certificate by covers can be relied on.
use Rattle.cover_checker.proofs.Common.{◌≡◌, ℕ, ℤ, pos, ◌⊎◌, inl, inr, List, Some, length, get_or, refl, sym, subst, slice_get, slice_get-get_or, All, All-slice_get, CaseHolds, ClaimData, CoverCertificateData, IsLawful, Exchange, IsLawfulExchange, HoldsEnd, IsAccepted, IsNamed, IsObservedIn, IsTraceable, IsTraceableByCovers, begin_of, last_end, names}
use Rattle.certificate.specs.Refutation.{RefutationData}
use Rattle.checker.proofs.Cover.{all_covered, piece_at}
use Rattle.feasibility.specs.DriftRefutation.{IsRefutedWithDrift}
use Rattle.feasibility.proofs.DriftCourse.{course as lowest, observed_beyond, observed_in_span, shown}
use Rattle.feasibility.proofs.Covers.{listed_in_groups}
use Rattle.cover_checker.proofs.Named.{fits_named}
use Rattle.cover_checker.proofs.Pieces.{held_case, holds_end, within}
use Rattle.cover_checker.proofs.Stretches.{HasCeilings}

module _ (ceilings : HasCeilings) (claim : ClaimData) (xs : List Exchange) (certificate : CoverCertificateData)
    (lawful : IsLawful claim) (each : All (IsLawfulExchange (length claim.servers)) xs)
    (accepted : IsAccepted claim xs certificate) where
  pub by_covers : IsTraceableByCovers claim xs certificate
  by_covers course fits observed =
      let wrong = fits.few_false.is_wrong in
      let ends : All (HoldsEnd claim xs wrong) certificate.conflicts = λ k d below.
      let pair = get_or certificate.conflicts k d in
      let at : slice_get certificate.conflicts k ≡ Some pair = slice_get-get_or certificate.conflicts k d below in
      holds_end ceilings claim lawful xs each course fits pair (accepted.conflicts k d below)
      (inl (k, pair, at, inl refl)) (inl (k, pair, at, inr refl)) in
      let held = held_case certificate.cases wrong (accepted.answered wrong fits.few_false.few ends) in
      let case = held.1 in
      let holds = All-slice_get (CaseHolds claim xs) certificate.cases held.0 case accepted.each held.2 in
      let in_pieces : IsObservedIn course claim.first (last_end claim.first case.pieces) =
      subst (λ (z : ℤ). IsObservedIn course claim.first z) (sym holds.ends_with_span) observed in
      let covered = all_covered course.fineness course.observation.reading claim.first case.pieces
      holds.some_piece in_pieces in
      let found = piece_at (λ stretch. IsObservedIn course stretch.begin stretch.end) claim.first case.pieces
      covered.0 covered.1 in
      let begin = begin_of claim.first case.pieces covered.0 in
      let entries = found.0.entries in
      let in_piece : (j k : ℕ) (entry : ℕ × ℕ) → slice_get entries j ≡ Some entry → (k ≡ entry.0) ⊎ (k ≡ entry.1)
      → IsNamed claim certificate course k =
      λ j k entry at is. inr (record {
        c = held.0;
        case = case;
        case_stands = held.2;
        p = covered.0;
        piece = found.0;
        piece_stands = found.1;
        observed = found.2;
        e = j;
        entry = entry;
        entry_stands = at;
        is_of_it = is;
      }) in
      within ceilings claim lawful xs each course fits (names case)
      (record { begin = begin; end = pos found.0.upto }) found.2 entries held.3
      (λ j entry at. (in_piece j entry.0 entry at (inl refl), in_piece j entry.1 entry at (inr refl)))
      (holds.each covered.0 found.0 found.1)

  -- so it is in every course that fits all exchanges
  pub traceable : IsTraceable claim xs
  traceable course fits observed =
      by_covers course
      (fits_named claim xs (IsNamed claim certificate course) course lawful.drift_in_range
      (listed_in_groups claim xs lawful each) fits) observed

  -- and so no refutation is accepted
  pub never_refuted : (r : RefutationData) → IsRefutedWithDrift claim xs r → ⊥
  never_refuted r refuted =
      let c = lowest claim xs r lawful each refuted in
      let shows = shown claim xs r lawful each refuted in
      let in_span = observed_in_span claim r c refuted.against shows.observed in
      observed_beyond claim r c refuted.against shows.observed xs shows.fits (traceable c shows.fits in_span)
