-- A shorter piece has narrower intervals, so what is left of a certificate in a span shows no less.
use Rattle.checker.proofs.Common.{◌≡◌, ℕ, ◌+◌, ◌<◌, ◌≤◌, ℤ, pos, ◌≤ℤ◌, ◌<ℤ◌, Bool, true, false, cond, ◌||◌, int_lt, nat_lt, inl, List, [], ◌∷◌, ◌++◌, length, Option, Some, None, Result, Ok, Err, refl, sym, ◌∙◌, subst, arith, get_or, All, slice_get, nat_le, AllZip, ints, cond-true, cond-false, nat_tests, get_or_default, AllZip-push, AllZip-get_or, length_all_zip, PieceData, CertificateData, ClaimData, IsLawfulSample, billion, Sample, moved_low, moved_high, IsYesOr, IsContradiction, IsNarrower, AreNarrower, part_of, part_from, parts_after, parts_fault, piece_fault, verdict_from, verdict_of, Part, Stretch, Yes, Why, Cut, by_test, All-slice_get, rules}
use Rattle.checker.specs.Span.{IsSpanWithin, claim_within, pieces_within, certificate_within}
use Rattle.checker.proofs.VerdictPieces.{yes_step, yes_end}
use Rattle.checker.proofs.Comparison.{FaultIs, fails_here, EveryHull}
use Rattle.checker.proofs.Narrow.{narrower_hull}
use Rattle.checker.proofs.Order.{names}
use Rattle.checker.proofs.Part.{takes, accepted, begins, begin_with}

-- the laws of the layer below: a piece inside another has narrower intervals
pub record PieceLaws : Type 0 where
  pub low : (ppb : ℕ) (sample : Sample) (p q inner outer : ℤ) → ppb < billion
      → sample.low_from ≤ℤ sample.low_to → p ≤ℤ inner → inner ≤ℤ outer → outer ≤ℤ q
      → moved_low sample p q ppb ≤ℤ moved_low sample inner outer ppb
  pub high : (ppb : ℕ) (sample : Sample) (p q inner outer : ℤ) → ppb < billion
      → sample.high_from ≤ℤ sample.high_to → p ≤ℤ inner → inner ≤ℤ outer → outer ≤ℤ q
      → moved_high sample inner outer ppb ≤ℤ moved_high sample p q ppb

-- ---- parts

same_names : (server : ℕ) (parts other : List Part) → AllZip IsNarrower parts other
    → names server parts ≡ names server other
same_names server [] [] zip = refl
same_names server [] (y ∷ other) zip = absurd zip
same_names server (x ∷ parts) [] zip = absurd zip
same_names server (x ∷ parts) (y ∷ other) zip = grind (arith, ints, nat_tests, same_names server parts other zip.1)

-- if each part has a narrower one at its place, it has one among them
narrower_from_zip : (parts next : List Part) → AllZip IsNarrower parts next → AreNarrower parts next
narrower_from_zip parts next zip k d below =
    let long = length_all_zip IsNarrower parts next zip in
    let inside : k < length next = omega arith in (
      k,
      get_or next k d,
      inside,
      get_or_default next k (get_or next k d) d inside,
      AllZip-get_or IsNarrower parts next k d d zip below,
    )

module _ (laws : PieceLaws) (hulls : EveryHull) (samples : List Sample) (claim : ClaimData)
    (rate : claim.drift_ppb < billion) (each : All IsLawfulSample samples) where
  module _ (outer inner : Stretch) (begin : outer.begin ≤ℤ inner.begin) (forward : inner.begin ≤ℤ inner.end)
      (end : inner.end ≤ℤ outer.end) where
    narrower_part : (low high : Sample) → IsLawfulSample low → IsLawfulSample high
        → IsNarrower (part_of low high outer claim.drift_ppb) (part_of low high inner claim.drift_ppb)
    narrower_part low high is_low is_high = grind (arith, ints, nat_tests)

    -- what an entry says about the shorter piece, after parts of the same servers
    record SaysNarrower (low high : Option Sample) (other : List Part) (part : Part) : Type 0 where
      pub next : Part
      pub said : part_from inner claim.drift_ppb other low high ≡ Ok next
      pub narrower : IsNarrower part next

    says_narrower : (earlier other : List Part) → AllZip IsNarrower earlier other → (a b : ℕ) (part : Part)
        → part_from outer claim.drift_ppb earlier (slice_get samples a) (slice_get samples b) ≡ Ok part
        → SaysNarrower (slice_get samples a) (slice_get samples b) other part
    says_narrower earlier other zip a b part e =
        let taken = takes outer claim.drift_ppb earlier _ _ part e in
        let low = taken.low in
        let high = taken.high in
        let new : names low.server other ≡ false = sym (same_names low.server earlier other zip) ∙ taken.new in
        subst (λ (p : Part). SaysNarrower (slice_get samples a) (slice_get samples b) other p) taken.is (record {
          next = part_of low high inner claim.drift_ppb;
          said = accepted inner claim.drift_ppb other low high _ _ taken.low_is taken.high_is taken.one_server new;
          narrower = narrower_part low high (All-slice_get IsLawfulSample samples a low each taken.low_is)
              (All-slice_get IsLawfulSample samples b high each taken.high_is);
        })

    -- what entries say about the shorter piece
    record SayNarrower (other : List Part) (entries : List (ℕ × ℕ)) (parts : List Part) : Type 0 where
      pub next : List Part
      pub said : parts_after samples inner claim.drift_ppb other entries ≡ Ok next
      pub narrower : AllZip IsNarrower parts next

    entries_narrower : (earlier other : List Part) (entries : List (ℕ × ℕ)) (parts : List Part)
        → AllZip IsNarrower earlier other → parts_after samples outer claim.drift_ppb earlier entries ≡ Ok parts
        → SayNarrower other entries parts
    entries_narrower earlier other [] parts zip e = search rules
    entries_narrower earlier other (entry ∷ entries) parts zip e =
        let first = begins samples outer claim.drift_ppb earlier entry entries parts e in
        let next = says_narrower earlier other zip entry.0 entry.1 first.part first.said in
        let rest = entries_narrower (earlier ++ first.part ∷ []) (other ++ next.next ∷ []) entries parts
        (AllZip-push IsNarrower earlier other first.part next.next zip next.narrower) first.rest in
        record {
          next = rest.next;
          said = begin_with samples inner claim.drift_ppb other entry entries next.next next.said ∙ rest.said;
          narrower = rest.narrower;
        }

  says_within : (outer inner : Stretch) → outer.begin ≤ℤ inner.begin → inner.begin ≤ℤ inner.end
      → inner.end ≤ℤ outer.end → (entries : List (ℕ × ℕ)) (said : Result (List Part) Why)
      → parts_after samples outer claim.drift_ppb [] entries ≡ said → parts_fault claim said ≡ None
      → FaultIs IsContradiction (parts_fault claim (parts_after samples inner claim.drift_ppb [] entries))
  says_within outer inner begin forward end entries (Err why) is e = absurd cc
  says_within outer inner begin forward end entries (Ok parts) is e =
      let narrow = entries_narrower outer inner begin forward end [] [] entries parts tt is in
      subst (λ (said : Result (List Part) Why). FaultIs IsContradiction (parts_fault claim said)) (sym narrow.said)
      (narrower_hull hulls claim.groups claim.false_max claim.bound parts narrow.next
      (narrower_from_zip parts narrow.next narrow.narrower) e)

  -- ---- pieces

  uncut : (cut : Bool) (fault : Option Why) → cond cut (Some Cut) fault ≡ None → fault ≡ None
  uncut true fault e = absurd cc
  uncut false fault e = e

  inside_span : (first upto last : ℕ) → first ≤ upto → upto ≤ last
      → (int_lt (pos upto) (pos first) || int_lt (pos last) (pos upto)) ≡ false
  inside_span first upto last forward inside = grind (arith, ints)

  module _ (start last : ℕ) (ends : pos last ≤ℤ claim.last) where
    abbrev other : ClaimData
    other = claim_within claim start last

    -- a piece, shortened to the span
    piece_within : (begin : ℤ) (first upto : ℕ) (piece : PieceData) → begin ≤ℤ pos first → first ≤ upto
        → upto ≤ piece.upto → upto ≤ last → piece_fault samples claim begin piece ≡ None
        → FaultIs IsContradiction (piece_fault samples other (pos first) (record piece { upto = upto }))
    piece_within begin first upto piece from forward before inside e =
        let outer : Stretch = record { begin = begin; end = pos piece.upto } in
        let inner : Stretch = record { begin = pos first; end = pos upto } in
        let passes = uncut (int_lt (pos piece.upto) begin || int_lt claim.last (pos piece.upto))
        (parts_fault claim (parts_after samples outer claim.drift_ppb [] piece.entries)) e in
        let follows = says_within outer inner from (omega (arith, ints)) (omega (arith, ints)) piece.entries _ refl
        passes in
        subst (FaultIs IsContradiction)
        (sym (cond-false (int_lt (pos upto) (pos first) || int_lt (pos last) (pos upto)) (Some Cut)
        (parts_fault claim (parts_after samples inner claim.drift_ppb [] piece.entries))
        (inside_span first upto last forward inside)))
        follows

    covered : (j : ℕ) → verdict_from samples other (j + 1) (pos last) [] ≡ Yes
    covered j = grind (arith, ints, nat_tests, cond-true)

    verdict_cut : (k j : ℕ) (begin : ℤ) (first : ℕ) (pieces : List PieceData) → begin ≤ℤ pos first → first ≤ last
        → (0 < k → begin <ℤ pos last) → verdict_from samples claim k begin pieces ≡ Yes
        → IsYesOr IsContradiction (verdict_from samples other j (pos first) (pieces_within first last pieces))
    verdict_cut k j begin first [] from forward short e = grind (arith, ints, nat_tests, yes_end)
    verdict_cut k j begin first (piece ∷ pieces) from forward short e =
        let step = yes_step samples claim k (piece_fault samples claim begin piece) _ e in
        let later = pieces_within first last pieces in
        let ended : PieceData = record piece { upto = last } in
        let kept = piece ∷ pieces_within piece.upto last pieces in
        by_test (nat_lt piece.upto first)
        (λ before.
        let less : piece.upto < first = grind (arith, nat_tests) in
        rw (cond-true (nat_lt piece.upto first) later (cond (nat_le last piece.upto) (ended ∷ []) kept) before)
        (verdict_cut (k + 1) j (pos piece.upto) first pieces (omega (arith, ints)) forward
        (λ some. omega (arith, ints)) step.1))
        (λ reaches.
        let more : first ≤ piece.upto = grind (arith, nat_tests) in
        rw (cond-false (nat_lt piece.upto first) later (cond (nat_le last piece.upto) (ended ∷ []) kept) reaches)
        (by_test (nat_le last piece.upto)
        (λ at_end.
        let over : last ≤ piece.upto = grind (arith, nat_tests) in
        rw (cond-true (nat_le last piece.upto) (ended ∷ []) kept at_end)
        (fails_here samples claim other IsContradiction j (piece_fault samples other (pos first) ended) _
        (piece_within begin first last piece from forward over (omega arith) step.0) (inl (covered j))))
        (λ goes_on.
        let less : piece.upto < last = grind (arith, nat_tests) in
        rw (cond-false (nat_le last piece.upto) (ended ∷ []) kept goes_on)
        (fails_here samples claim other IsContradiction j (piece_fault samples other (pos first) piece) _
        (piece_within begin first piece.upto piece from more (omega arith) (omega arith) step.0)
        (verdict_cut (k + 1) (j + 1) (pos piece.upto) piece.upto pieces (omega (arith, ints)) (omega arith)
        (λ some. omega (arith, ints)) step.1)))))

  pub verdict_within : (first last : ℕ) → IsSpanWithin claim first last → (certificate : CertificateData)
      → verdict_of samples claim certificate ≡ Yes
      → IsYesOr IsContradiction
      (verdict_of samples (claim_within claim first last) (certificate_within certificate first last))
  verdict_within first last within certificate e =
      verdict_cut first last within.ends 0 0 claim.first first certificate.pieces within.begins within.forward
      (λ some. absurd (omega arith)) e
