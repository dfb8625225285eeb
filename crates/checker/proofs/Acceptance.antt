-- A verdict is yes exactly if the certificate is accepted.
use Rattle.checker.proofs.Common.{◌≡◌, ℕ, ℤ, pos, ◌≤ℤ◌, int_lt, ◌||◌, ◌↔◌, List, [], Some, None, refl, ap, ◌∙◌, arith, cond-false, ints, PieceData, CertificateData, ClaimData, IsHull, hull_of, Interval, Hull, Unbounded, Empty, Bounded, Sample, ShowBound, IsAccepted, group_intervals, piece_hull, begin_of, parts_after, hull_fault, parts_fault, piece_fault, verdict_of, Stretch, Yes, Cut}
use Rattle.checker.proofs.EntryStatement.{said_from, taken_from}
use Rattle.checker.proofs.PieceVerdict.{all_pass, each_passes}
use Rattle.checker.proofs.VerdictPieces.{yes_end, HullGives, tested, none_from_inside}

-- the laws that the argument stands on
pub record Laws : Type 0 where
  pub hull : (list : List Interval) (f : ℕ) → IsHull list f (hull_of list f)
  pub one : (list : List Interval) (f : ℕ) (first second : Hull) → IsHull list f first → IsHull list f second
      → first ≡ second

module _ (laws : Laws) (samples : List Sample) (claim : ClaimData) where
  -- ---- one piece

  shows_hull : (stretch : Stretch) (entries : List (ℕ × ℕ)) (found : HullGives samples claim stretch entries None)
      (hull : Hull) → piece_hull claim.groups claim.false_max found.parts ≡ hull → hull_fault claim.bound hull ≡ None
      → stretch.begin ≤ℤ stretch.end → stretch.end ≤ℤ claim.last → ShowBound samples claim stretch entries
  shows_hull stretch entries found Unbounded is e forward in_span = absurd cc
  shows_hull stretch entries found Empty is e forward in_span = absurd cc
  shows_hull stretch entries found (Bounded lo hi) is e forward in_span =
      grind (arith, said_from samples stretch claim.drift_ppb entries found.parts found.said)

  shows : (begin : ℤ) (piece : PieceData) → piece_fault samples claim begin piece ≡ None
      → ShowBound samples claim (record { begin = begin; end = pos piece.upto }) piece.entries
  shows begin piece e =
      let found = tested samples claim begin piece None tt e in
      shows_hull (record { begin = begin; end = pos piece.upto }) piece.entries found.1 _ refl found.1.gives
      found.0.0 found.0.1

  passes : (begin : ℤ) (piece : PieceData)
      → ShowBound samples claim (record { begin = begin; end = pos piece.upto }) piece.entries
      → piece_fault samples claim begin piece ≡ None
  passes begin piece shown =
      let stretch : Stretch = record { begin = begin; end = pos piece.upto } in
      let forward = shown.forward in
      let in_span = shown.in_span in
      let list = group_intervals claim.groups shown.parts in
      let hull : hull_of list claim.false_max ≡ Bounded shown.lo shown.hi =
      laws.one list claim.false_max (hull_of list claim.false_max) (Bounded shown.lo shown.hi)
      (laws.hull list claim.false_max) shown.hull in
      cond-false (int_lt (pos piece.upto) begin || int_lt claim.last (pos piece.upto)) (Some Cut)
      (parts_fault claim (parts_after samples stretch claim.drift_ppb [] piece.entries)) (grind (arith, ints))
      ∙ ap (parts_fault claim)
      (taken_from samples stretch claim.drift_ppb piece.entries shown.parts shown.said shown.no_server_twice)
      ∙ ap (hull_fault claim.bound) hull
      ∙ none_from_inside claim.bound shown.lo shown.hi shown.above shown.below

  -- ---- the certificate

  accepted_from : (certificate : CertificateData) → verdict_of samples claim certificate ≡ Yes
      → IsAccepted samples claim certificate
  accepted_from certificate e =
      let ends = yes_end samples claim 0 claim.first certificate.pieces e in
      record {
        some_piece = omega (arith, ends.0);
        ends_with_span = ends.1;
        each = λ k piece at. shows (begin_of claim.first certificate.pieces k) piece
            (each_passes samples claim 0 claim.first certificate.pieces e k piece at);
      }

  yes_from : (certificate : CertificateData) → IsAccepted samples claim certificate
      → verdict_of samples claim certificate ≡ Yes
  yes_from certificate accepted =
      all_pass samples claim 0 claim.first certificate.pieces (omega (arith, accepted.some_piece))
      accepted.ends_with_span
      (λ k piece at. passes (begin_of claim.first certificate.pieces k) piece (accepted.each k piece at))

  pub acceptance : (certificate : CertificateData)
      → (verdict_of samples claim certificate ≡ Yes) ↔ IsAccepted samples claim certificate
  acceptance certificate = (accepted_from certificate, yes_from certificate)
