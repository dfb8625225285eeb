-- One more entry in a piece leaves no more points admissible.
use Rattle.checker.proofs.Common.{◌≡◌, ℕ, ◌⊎◌, inl, inr, ⊎_elim, List, [], ◌∷◌, ◌++◌, length, Option, None, Result, Ok, Err, refl, sym, ap, ◌∙◌, subst, arith, slice_get, ints, PieceData, CertificateData, ClaimData, Sample, IsYesOr, IsContradiction, IsRefusedEntry, HasOneMoreEntry, part_from, parts_after, unless_refused, parts_fault, verdict_from, verdict_of, Part, Stretch, Yes, Why, get_or, ◌<◌, get_or_default, AreNarrower, nat_tests}
use Rattle.std.proofs.lemmas.Grind.{common_steps}
use Rattle.checker.proofs.Comparison.{FaultIs, one_changed, EveryHull}
use Rattle.checker.proofs.Narrow.{narrower_hull}
use Rattle.checker.proofs.Part.{refused, begins, begin_with}

-- each part stands among the same ones with one more
still_there : (parts : List Part) (part : Part) → AreNarrower parts (parts ++ part ∷ [])
still_there parts part k d below =
    let x = get_or parts k d in
    let within : k < length (parts ++ part ∷ []) = grind (arith, common_steps) in
    let at : get_or (parts ++ part ∷ []) k x ≡ get_or parts k x = grind (arith, common_steps) in (
      k,
      x,
      within,
      at ∙ get_or_default parts k x d below,
      record { server = refl; low = omega (arith, ints); high = omega (arith, ints) },
    )

-- a contradiction, or the entry is refused by itself
abbrev pub ContradictsOrRefuses : Why → Type 0
ContradictsOrRefuses why = IsContradiction why ⊎ IsRefusedEntry why

module _ (hulls : EveryHull) (samples : List Sample) (claim : ClaimData) (stretch : Stretch) where
  abbrev after : List Part → List (ℕ × ℕ) → Result (List Part) Why
  after earlier entries = parts_after samples stretch claim.drift_ppb earlier entries

  -- what entries say, with one more
  entries_split : (earlier : List Part) (entries : List (ℕ × ℕ)) (entry : ℕ × ℕ) (parts : List Part)
      → after earlier entries ≡ Ok parts → after earlier (entries ++ entry ∷ []) ≡ after parts (entry ∷ [])
  entries_split earlier [] entry parts e = grind (arith, ints, nat_tests, after)
  entries_split earlier (first ∷ entries) entry parts e =
      let begin = begins samples stretch claim.drift_ppb earlier first entries parts e in
      begin_with samples stretch claim.drift_ppb earlier first (entries ++ entry ∷ []) begin.part begin.said
      ∙ entries_split (earlier ++ begin.part ∷ []) entries entry parts begin.rest

  weaker : (fault : Option Why) → FaultIs IsContradiction fault → FaultIs ContradictsOrRefuses fault
  weaker fault = ⊎_elim (λ none. inl none) (λ found. inr (found.0, found.1, inl found.2))

  -- with one more part the hull is no wider
  more_parts : (parts : List Part) (part : Part) → parts_fault claim (Ok parts) ≡ None
      → FaultIs IsContradiction (parts_fault claim (Ok (parts ++ part ∷ [])))
  more_parts parts part e =
      narrower_hull hulls claim.groups claim.false_max claim.bound parts (parts ++ part ∷ []) (still_there parts part) e

  one_more : (parts : List Part) (entry : ℕ × ℕ) (first : Result Part Why)
      → ((why : Why) → first ≡ Err why → IsRefusedEntry why) → parts_fault claim (Ok parts) ≡ None
      → FaultIs ContradictsOrRefuses
      (parts_fault claim (unless_refused first (λ part. after (parts ++ part ∷ []) [])))
  one_more parts entry (Err why) refused e = inr (why, refl, inr (refused why refl))
  one_more parts entry (Ok part) refused e = weaker _ (more_parts parts part e)

  says_more : (entries : List (ℕ × ℕ)) (entry : ℕ × ℕ) (said : Result (List Part) Why)
      → after [] entries ≡ said → parts_fault claim said ≡ None
      → FaultIs ContradictsOrRefuses (parts_fault claim (after [] (entries ++ entry ∷ [])))
  says_more entries entry (Err why) is e = absurd cc
  says_more entries entry (Ok parts) is e =
      subst (λ (said : Result (List Part) Why). FaultIs ContradictsOrRefuses (parts_fault claim said))
      (sym (entries_split [] entries entry parts is))
      (one_more parts entry
      (part_from stretch claim.drift_ppb parts (slice_get samples entry.0) (slice_get samples entry.1))
      (refused stretch claim.drift_ppb parts (slice_get samples entry.0) (slice_get samples entry.1)) e)

pub one_more_entry : (hulls : EveryHull) (samples : List Sample) (claim : ClaimData)
    (certificate more : CertificateData) → HasOneMoreEntry certificate more → verdict_of samples claim certificate ≡ Yes
    → IsYesOr ContradictsOrRefuses (verdict_of samples claim more)
one_more_entry hulls samples claim certificate more has e =
    let next : PieceData = record has.piece { entries = has.piece.entries ++ has.entry ∷ [] } in
    subst (λ (ps : List PieceData). IsYesOr ContradictsOrRefuses (verdict_from samples claim 0 claim.first ps))
    (sym has.with_it)
    (one_changed samples claim ContradictsOrRefuses has.before has.piece next has.after refl
    (λ stretch passes. says_more hulls samples claim stretch has.piece.entries has.entry _ refl passes)
    (ap (λ (ps : List PieceData). verdict_from samples claim 0 claim.first ps) (sym has.without) ∙ e))
