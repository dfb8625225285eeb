-- The case that longest pieces make, if they reach the span's end.
use Rattle.std.proofs.Common.{◌≡◌, ℕ, ℤ, pos, Bool, List, [], ◌∷◌, refl, ◌∙◌, subst, arith}
use Rattle.std.proofs.lemmas.List.{length-map}
use mathlib.Core.Path.{fun_ext}
use Rattle.certificate.specs.Certificate.{PieceData}
use Rattle.checker.specs.Stretch.{begin_of, last_end}
use Rattle.cover_certificate.specs.CoverCertificate.{CaseData}
use Rattle.cover_checker.specs.Acceptance.{CaseHolds, ShowBound}
use Rattle.cover_checker.specs.Conflict.{names}
use Rattle.cover_finder.specs.Common.{ClaimData, Exchange, end_after, stretch_over}
use Rattle.cover_finder.specs.Reach.{AllShowBound, ReachEnd, ends_of}

last_end-ends_of : (p : ℤ) (pieces : List PieceData) → last_end p pieces ≡ end_after p (ends_of pieces)
last_end-ends_of p [] = refl
last_end-ends_of p (first ∷ pieces) = last_end-ends_of (pos first.upto) pieces

-- it holds, if it names the groups that were left out
pub case_holds : (claim : ClaimData) (xs : List Exchange) (out : ℕ → Bool) (case : CaseData)
    → ((group : ℕ) → out group ≡ names case group) → ReachEnd claim (ends_of case.pieces)
    → AllShowBound claim xs out case.pieces → CaseHolds claim xs case
case_holds claim xs out case same reach show = record {
  some_piece = omega (arith, length-map case.pieces (λ (p : PieceData). pos p.upto), reach.some);
  ends_with_span = last_end-ends_of claim.first case.pieces ∙ reach.with_span;
  each = λ k piece at. subst (λ (set : ℕ → Bool). ShowBound claim xs set
      (stretch_over (begin_of claim.first case.pieces k) (pos piece.upto)) piece.entries)
      (fun_ext same) (show.each k piece at);
}
