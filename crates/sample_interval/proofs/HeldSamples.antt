-- The samples of exchanges that are held in some form.
use Rattle.std.proofs.lemmas.Bool.Decides.{nat_tests}
use Rattle.sample_interval.proofs.Common.{◌≡◌, ℕ, ◌<◌, ℤ, List, length, map, get_or, Some, subst, slice_get, All, IsLawful, Exchange, IsOfSomeClaim, sample_of, Sample, arith, ints}
use Rattle.std.proofs.lemmas.Option.{slice_get-map, slice_get-get_or, slice_get_within, get_or_from_slice_get}

-- what is held at a number says this exchange
module _ {X : Type 0} (shown : X → Exchange) (held : List X) (number : ℕ) (item : X) (x : Exchange)
    (below : number < length held) (says : x ≡ shown (get_or held number item)) where
  shown_at : slice_get (map shown held) number ≡ Some x
  shown_at = grind (arith, ints, nat_tests, slice_get-map, shown, held, number, slice_get-get_or, item, below, says)

  pub of_some_claim : All (IsLawful 32) (map shown held) → IsOfSomeClaim x
  of_some_claim all = record {
    servers = 32;
    lawful = subst (IsLawful 32) (get_or_from_slice_get (map shown held) number x x shown_at)
        (all number x (slice_get_within (map shown held) number x shown_at));
  }

  pub sample_made : (reading : ℤ) (sample : Sample) → sample ≡ sample_of x reading
      → slice_get (map (λ y. sample_of y reading) (map shown held)) number ≡ Some sample
  sample_made reading sample made = grind (arith, ints, nat_tests, slice_get-map, shown, held, number, shown_at)
