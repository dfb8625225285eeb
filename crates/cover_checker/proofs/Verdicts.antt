-- A verdict is yes exactly if the certificate is accepted.
use Rattle.std.specs.Prelude.{◌↔◌}
use Rattle.cover_checker.proofs.Common.{◌≡◌, List, [], length, refl, sym, ◌∙◌, subst, arith, All-slice_get, CaseHolds, ClaimData, CoverCertificateData, Exchange, IsAccepted}
use Rattle.cover_checker.proofs.Acceptance.{Laws, none_fails}
use Rattle.cover_checker.specs.Verdict.{IsVerdict}
use Rattle.cover_checker.specs.declared.verdict.CoverVerdict.{CoverVerdict}
use Rattle.cover_checker.specs.declared.verdict.CoverVerdict.TheVariants.{Yes, NoConflict, NoCase, BadCase, Unanswered, BadPiece}

module _ (laws : Laws) (claim : ClaimData) (xs : List Exchange) (certificate : CoverCertificateData) where
  refuted : (v : CoverVerdict) → IsVerdict claim xs certificate v → IsAccepted claim xs certificate → v ≡ Yes
  refuted Yes is accepted = refl
  refuted (NoConflict k) is accepted =
      absurd (is.fails (0, 0) (accepted.conflicts k (0, 0) is.within))
  refuted NoCase is accepted =
      let some = accepted.some_case in
      let none : length certificate.cases ≡ 0 = ap' is.1 in
      absurd (omega arith)
    where
      ap' : certificate.cases ≡ [] → length certificate.cases ≡ 0
      ap' e = rw e refl
  refuted (BadCase k why) is accepted = absurd (let e = sym is.1 ∙ accepted.fit in cc)
  refuted Unanswered is accepted =
      let some = is.3 in absurd (some.1.no_case (accepted.answered some.0 some.1.few some.1.ends))
  refuted (BadPiece k piece why) is accepted =
      let none = none_fails laws claim xs 0 certificate.cases
      (λ c case at. All-slice_get (CaseHolds claim xs) certificate.cases c case accepted.each at) in
      absurd (let e = sym is.4 ∙ none in cc)

  pub settled : (v : CoverVerdict) → IsVerdict claim xs certificate v → (v ≡ Yes) ↔ IsAccepted claim xs certificate
  settled v is = (λ e. subst (IsVerdict claim xs certificate) e is, refuted v is)
