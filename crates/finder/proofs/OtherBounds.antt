-- What is found with other bounds.
use Rattle.finder.proofs.Common.{◌≡◌, ℕ, ◌<◌, ◌≤◌, pos, not, List, Option, Some, None, Ok, Err, refl, sym, ap, ◌∙◌, ⊎_elim, arith, cases_lt, ticks_down, max_pieces, ClaimData, Sample, is_inside, best_hull, EnvelopeData, IsInside, IsLeast, IsCertified, IsNotCertified, envelope_of, envelope_to, least_of, with_bound, hull_at, passes, first_failing, found_without, found_of, count_of, stretch_at, Stretch, piece_count_of, LeastBound, Holds, NoneHolds, not-false}
use Rattle.finder.proofs.Answer.{found_of_few}
use Rattle.finder.proofs.Bound.{least_is_least, none_inside, wider}
use Rattle.finder.proofs.EnvelopePieces.{envelope_of_few, envelope_of_many}
use Rattle.finder.proofs.List.{find_none, find_is_none}

-- the bound plays no part in the hulls
pub same_hull : (samples : List Sample) (claim : ClaimData) (m : ℕ) (stretch : Stretch)
    → best_hull samples (with_bound claim m) stretch ≡ best_hull samples claim stretch
unfolding best_hull
same_hull samples claim m stretch = refl

module _ (samples : List Sample) (claim : ClaimData) (step m : ℕ) where
  passes_is : (k : ℕ) → passes samples (with_bound claim m) step k
      ≡ is_inside (pos (ticks_down m)) (hull_at samples claim step k)
  passes_is k = ap (is_inside (pos (ticks_down m))) (same_hull samples claim m (stretch_at claim step k))

  carried : count_of claim step ≤ max_pieces
      → ((k : ℕ) → k < count_of claim step → IsInside m (hull_at samples claim step k))
      → IsCertified (found_of samples (with_bound claim m) step)
  carried few all =
      let none : first_failing samples (with_bound claim m) step ≡ None =
      find_none (λ k. not (passes samples (with_bound claim m) step k)) 0 (count_of claim step)
      (λ k from to. ap not (passes_is k ∙ all k (omega (arith, to)))) in (
        _,
        found_of_few samples (with_bound claim m) step few
            ∙ ap (λ (o : Option ℕ). Ok (found_without samples (with_bound claim m) step o)) none,
      )

  not_carried_at : (o : Option ℕ) → first_failing samples (with_bound claim m) step ≡ o
      → ¬ ((k : ℕ) → k < count_of claim step → IsInside m (hull_at samples claim step k))
      → count_of claim step ≤ max_pieces
      → IsNotCertified (found_of samples (with_bound claim m) step)
  not_carried_at None is outside few = absurd (outside (λ k below.
      sym (passes_is k)
      ∙ not-false (passes samples (with_bound claim m) step k)
      (find_is_none (λ j. not (passes samples (with_bound claim m) step j)) 0 (count_of claim step) is k (omega arith)
      (omega (arith, below)))))
  not_carried_at (Some k) is outside few = (
    k,
    hull_at samples (with_bound claim m) step k,
    found_of_few samples (with_bound claim m) step few
        ∙ ap (λ (o : Option ℕ). Ok (found_without samples (with_bound claim m) step o)) is,
  )

  not_carried : ¬ ((k : ℕ) → k < count_of claim step → IsInside m (hull_at samples claim step k))
      → count_of claim step ≤ max_pieces
      → IsNotCertified (found_of samples (with_bound claim m) step)
  not_carried outside few = not_carried_at (first_failing samples (with_bound claim m) step) refl outside few

-- ---- what an envelope says

module _ (samples : List Sample) (claim : ClaimData) (step : ℕ) where
  some_piece : 0 < count_of claim step
  unfolding piece_count_of
  some_piece = omega arith

  -- its pieces are few, and its least bound is theirs
  pub record Says (least : LeastBound) : Type 0 where
    pub few : count_of claim step ≤ max_pieces
    pub is : least_of (hull_at samples claim step) (count_of claim step) ≡ least

  pub says : (envelope : EnvelopeData) → envelope_of samples claim step ≡ Ok envelope → Says envelope.least
  says envelope is = ⊎_elim
      (λ many. absurd (
      let fault = envelope_of_many samples claim step many in
      let both : Err _ ≡ Ok envelope = sym fault ∙ is in
      cc))
      (λ few.
      let both : Ok (envelope_to samples claim step (count_of claim step)) ≡ Ok envelope =
      sym (envelope_of_few samples claim step few) ∙ is in
      let same : envelope_to samples claim step (count_of claim step) ≡ envelope = cc in
      record { few = few; is = ap (λ (e : EnvelopeData). e.least) same })
      (cases_lt max_pieces (count_of claim step))

  module _ (envelope : EnvelopeData) (found : envelope_of samples claim step ≡ Ok envelope)
    where
      pub least_is : (least : LeastBound) → envelope.least ≡ least
          → IsLeast (hull_at samples claim step) (count_of claim step) least
      least_is least e =
          rw (← e, ← (says envelope found).is)
          (least_is_least (hull_at samples claim step) (count_of claim step) some_piece)

      pub holds : (n k m : ℕ) → envelope.least ≡ Holds n k → n ≤ m
          → IsCertified (found_of samples (with_bound claim m) step)
      holds n k m e le =
          let least = (least_is (Holds n k) e).0 in
          carried samples claim step m (says envelope found).few
          (λ j below. wider n m (hull_at samples claim step j) le (least.all_inside j below))

      pub no_lesser : (n k m : ℕ) → envelope.least ≡ Holds n k → m < n
          → IsNotCertified (found_of samples (with_bound claim m) step)
      no_lesser n k m e less =
          let least = (least_is (Holds n k) e).0 in
          not_carried samples claim step m (λ all. let le = least.least m all in absurd (omega arith))
          (says envelope found).few

      pub none_holds : (k m : ℕ) → envelope.least ≡ NoneHolds k
          → IsNotCertified (found_of samples (with_bound claim m) step)
      none_holds k m e =
          let first = least_is (NoneHolds k) e in
          not_carried samples claim step m
          (λ all. none_inside m (hull_at samples claim step k) (all k first.of_span) first.without)
          (says envelope found).few
