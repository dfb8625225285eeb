-- What is found, and what that says.
use Rattle.finder.proofs.Common.{◌≡◌, ℕ, ◌<◌, ◌≤◌, true, not, length, Option, Some, None, Ok, Err, inl, inr, refl, sym, ap, ◌∙◌, arith, rules, ◌↔◌, IsErrAnd, lt-ltb, le-ltb, length-map-range_with_len, CertificateData, max_pieces, ClaimData, IsLawful, Hull, Sample, verdict_of, Yes, is_inside, Finds, IsFirstFailing, pieces_from, piece_at, hull_at, passes, first_failing, found_without, found_of, IsPieceCount, count_of, AreSamplesOf, FindFault, TooManyPieces, Memory, not-true, not-false}
use Rattle.std.specs.Prelude.{◌⊎◌, List, Result}
use Rattle.certificate.specs.Certificate.{data_of as certificate_data}
use Rattle.finder.specs.Found.{data_of}
use Rattle.finder.specs.declared.found.Found.{Found}
use Rattle.finder.specs.declared.found.Found.TheVariants.{Certificate, Nothing}
use Rattle.finder.proofs.List.{find_is_first, find_is_none}
use Rattle.finder.proofs.Refusal.{contradicted, held, none_accepted}
use Rattle.finder.proofs.Verdict.{all_accepted}

module _ (samples : List Sample) (claim : ClaimData) (step : ℕ) where
  found_of_many : max_pieces < count_of claim step → found_of samples claim step ≡ Err TooManyPieces
  unfolding found_of
  found_of_many many = rw (lt-ltb _ _ many) refl

  pub found_of_few : count_of claim step ≤ max_pieces
      → found_of samples claim step ≡ Ok (found_without samples claim step (first_failing samples claim step))
  unfolding found_of
  found_of_few few = rw (le-ltb _ _ few) refl

  -- ---- a fault

  refuses : (fault : FindFault) → (fault ≡ Memory) ⊎ (found_of samples claim step ≡ Err fault)
      → (◌≡◌ {A = Result Found FindFault} (Err fault) (Err TooManyPieces)) ↔ (max_pieces < count_of claim step)
      → Finds samples claim step (Err fault)
  refuses fault exact too_many = search rules

  pub found_many : max_pieces < count_of claim step → Finds samples claim step (Err TooManyPieces)
  found_many many = refuses TooManyPieces (inr (found_of_many many)) (λ is. many, λ over. refl)

  pub found_without_memory : count_of claim step ≤ max_pieces → (result : Result Found FindFault)
      → IsErrAnd result (λ fault. fault ≡ Memory) → Finds samples claim step result
  found_without_memory few (Ok found) is = absurd is
  found_without_memory few (Err fault) is = refuses fault (inl is) (λ e. absurd cc, λ many. absurd (omega arith))

  module _ (lawful : IsLawful claim) (are : AreSamplesOf claim samples)
      (counted : IsPieceCount claim.first claim.last step (count_of claim step))
      (few : count_of claim step ≤ max_pieces)
    where
      exact : (found : Found)
          → data_of found ≡ found_without samples claim step (first_failing samples claim step)
          → found_of samples claim step ≡ Ok (data_of found)
      exact found e = found_of_few few ∙ ap Ok (sym e)

      -- ---- a certificate: it has all pieces, and all pass

      finds_certificate : (found : CertificateData) → first_failing samples claim step ≡ None
          → found ≡ record { pieces = pieces_from samples claim step 0 (count_of claim step) }
          → (verdict_of samples claim found ≡ Yes) × (length found.pieces ≤ max_pieces)
      finds_certificate found none e =
          let pass : (k : ℕ) → k < count_of claim step → passes samples claim step k ≡ true =
          λ k below. not-false (passes samples claim step k)
          (find_is_none (λ j. not (passes samples claim step j)) 0 (count_of claim step) none k (omega arith)
          (omega (arith, below))) in
          let count = length-map-range_with_len (piece_at samples claim step) 0 (count_of claim step) in (
            ap (verdict_of samples claim) e
                ∙ all_accepted samples claim lawful step (count_of claim step) counted pass,
            rw e (omega (arith, count)),
          )

      -- ---- nothing: a piece fails, and none before it does

      finds_nothing : (piece : ℕ) (hull : Hull) (k : ℕ) → first_failing samples claim step ≡ Some k → piece ≡ k
          → hull ≡ hull_at samples claim step k → IsFirstFailing samples claim step piece hull
      finds_nothing piece hull k some number of_it =
          let found = find_is_first (λ j. not (passes samples claim step j)) 0 (count_of claim step) k some in
          record {
            of_span = rw number (omega (arith, found.to));
            its_hull = of_it ∙ ap (hull_at samples claim step) (sym number);
            fails = ap (is_inside claim.bound) of_it ∙ not-true (passes samples claim step k) found.passes;
            others_pass = λ j below.
                not-false (passes samples claim step j) (found.others_fail j (omega arith) (rw number at below));
          }

      finds_at : (found : Found) (o : Option ℕ) → first_failing samples claim step ≡ o
          → data_of found ≡ found_without samples claim step o
          → data_of found ≡ found_without samples claim step (first_failing samples claim step)
          → Finds samples claim step (Ok found)
      finds_at (Certificate found) (Some k) first e is = absurd cc
      finds_at (Nothing piece hull) None first e is = absurd cc
      finds_at (Certificate found) None first e is =
          let pieces = pieces_from samples claim step 0 (count_of claim step) in
          let all : certificate_data found ≡ record { pieces = pieces } = cc in
          let says = finds_certificate (certificate_data found) first all in
          record {
            exact = exact (Certificate found) is;
            too_many = (λ is. absurd cc, λ many. absurd (omega arith));
            accepted = says.0;
            few = says.1;
            failing = tt;
            none_accepted = tt;
            contradiction = tt;
            held = tt;
          }
      finds_at (Nothing piece hull) (Some k) first e is =
          let number : piece ≡ k = cc in
          let of_it : hull ≡ hull_at samples claim step k = cc in
          let failing = finds_nothing piece hull k first number of_it in
          record {
            exact = exact (Nothing piece hull) is;
            too_many = (λ is. absurd cc, λ many. absurd (omega arith));
            accepted = tt;
            few = tt;
            failing = failing;
            none_accepted = none_accepted samples claim step lawful are piece hull failing;
            contradiction = contradicted samples claim step lawful are piece hull failing;
            held = held samples claim step lawful are piece hull failing;
          }

      pub found_few : (found : Found)
          → data_of found ≡ found_without samples claim step (first_failing samples claim step)
          → Finds samples claim step (Ok found)
      found_few found e = finds_at found _ refl e e

pub ruleset found_faults = (found_many, found_without_memory)
