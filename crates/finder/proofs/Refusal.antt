-- What it says that a piece fails: no certificate with a piece over it is accepted.
use Rattle.finder.proofs.Common.{◌≡◌, ◌≢◌, ℕ, zero, suc, ℤ, pos, Bool, true, false, true≢false, cond, ⊎_elim, List, [], ◌∷◌, Option, Some, None, refl, sym, ap, ◌∙◌, subst, slice_get, IsSomeAnd, PieceData, ClaimData, IsLawful, Hull, Empty, Sample, is_inside, Stretch, begin_of, stretches_from, HoldsError, IsContradicted, IsInHull, parts_after, parts_fault, piece_fault, Cut, IsFirstFailing, stretch_at, HoldsWhole, NoneIsAcceptedOver, AreSamplesOf}
use Rattle.checker.proofs.PieceVerdict.{each_passes}
use Rattle.finder.proofs.Narrow.{shows_as_much}
use Rattle.finder.proofs.SpanPieces.{piece_of_claim}
use Rattle.finder.proofs.Verdict.{best_held}

-- ---- what a yes says about a piece

module _ (samples : List Sample) (claim : ClaimData) where
  -- entries pass the tests of a verdict over a stretch
  pub record Shows (stretch : Stretch) : Type 0 where
    pub entries : List (ℕ × ℕ)
    pub passes : parts_fault claim (parts_after samples stretch claim.drift_ppb [] entries) ≡ None

  shows_cut : (stretch : Stretch) (entries : List (ℕ × ℕ)) (cut : Bool)
      → cond cut (Some Cut) (parts_fault claim (parts_after samples stretch claim.drift_ppb [] entries)) ≡ None
      → Shows stretch
  shows_cut stretch entries true e = absurd cc
  shows_cut stretch entries false e = record { entries = entries; passes = e }

  pub shows_piece : (begin : ℤ) (piece : PieceData) → piece_fault samples claim begin piece ≡ None
      → Shows (record { begin = begin; end = pos piece.upto })
  shows_piece begin piece e = shows_cut (record { begin = begin; end = pos piece.upto }) piece.entries _ e

  -- the pieces pass their tests, each where the one before it ends
  abbrev pub Pass : ℤ → List PieceData → Type 0
  Pass begin pieces = (k : ℕ) (piece : PieceData) → slice_get pieces k ≡ Some piece
      → piece_fault samples claim (begin_of begin pieces k) piece ≡ None

  -- so each piece shows it
  pub pass_each : (begin : ℤ) (pieces : List PieceData) → Pass begin pieces → (j : ℕ) (stretch : Stretch)
      → slice_get (stretches_from begin pieces) j ≡ Some stretch → Shows stretch
  pass_each begin [] pass j stretch at = absurd cc
  pass_each begin (piece ∷ pieces) pass zero stretch at =
      let here : record { begin = begin; end = pos piece.upto } ≡ stretch = cc in
      subst Shows here (shows_piece begin piece (pass 0 piece refl))
  pass_each begin (piece ∷ pieces) pass (suc j) stretch at =
      pass_each (pos piece.upto) pieces (λ k other is. pass (suc k) other is) j stretch at

-- ---- a piece that fails

pub some_and : (P : Stretch → Type 0) (o : Option Stretch) → IsSomeAnd o P → (s : Stretch) × (o ≡ Some s) × P s
some_and P None h = absurd h
some_and P (Some s) h = (s, refl, h)

module _ (samples : List Sample) (claim : ClaimData) (step : ℕ) (lawful : IsLawful claim)
    (are : AreSamplesOf claim samples) (k : ℕ) (hull : Hull) (failing : IsFirstFailing samples claim step k hull)
  where
    pub none_accepted : hull ≢ Empty → NoneIsAcceptedOver samples claim (stretch_at claim step k)
    none_accepted some certificate has accepted =
        let inner = stretch_at claim step k in
        let outer = some_and (λ outer. HoldsWhole outer inner) _ has.1 in
        let shown = pass_each samples claim claim.first certificate.pieces
        (each_passes samples claim 0 claim.first certificate.pieces accepted) has.0 outer.0 outer.1 in
        ⊎_elim
        (λ empty. some (failing.its_hull ∙ empty))
        (λ inside. true≢false (sym inside ∙ ap (is_inside claim.bound) (sym failing.its_hull) ∙ failing.fails))
        (shows_as_much samples claim outer.0 inner shown.entries lawful.drift_in_range are
        (piece_of_claim claim lawful step k) outer.2 shown.passes)

    pub held : HoldsError claim samples (stretch_at claim step k) hull
    held = rw failing.its_hull (best_held claim samples (stretch_at claim step k) lawful are)

    pub contradicted : hull ≡ Empty → IsContradicted claim samples (stretch_at claim step k)
    contradicted empty xs course made fits observed =
        subst (IsInHull course) empty (held xs course made fits observed)
