-- The limits of exchanges, one by one and of their samples.
use Rattle.checker.proofs.Common.{◌≡◌, ℕ, ◌<◌, ℤ, List, length, map, Some, sym, ◌∙◌, ap, subst, All, slice_get, get_or_from_slice_get, slice_get_within, get_or-map, length-map, All-map, ClaimData, IsLawful, Exchange, sample_of, IsLawfulSample, AreSamplesOf, samples_of}
use Rattle.pairing.specs.Exchange.{IsLawful as IsLawfulExchange}
use Rattle.sample_interval.proofs.ExchangeSample as sample

-- what the element at a place shows is lawful, if all that is shown is
pub lawful_at : {X : Type 0} (shown : X → Exchange) (xs : List X) (servers k : ℕ) (x : X) → slice_get xs k ≡ Some x →
    All (IsLawfulExchange servers) (map shown xs) → IsLawfulExchange servers (shown x)
lawful_at shown xs servers k x at each =
    let within = slice_get_within xs k x at in
    subst (IsLawfulExchange servers)
    (get_or-map shown xs k x (shown x) within ∙ ap shown (get_or_from_slice_get xs k x x at))
    (each k (shown x) (rw (length-map xs shown) within))

-- the servers of samples are listed, if those of the exchanges are
pub listed_samples : (xs : List Exchange) (claim : ClaimData) (servers : ℕ) → All (IsLawfulExchange servers) xs →
    All (λ sample. sample.server < servers) (samples_of xs claim)
listed_samples xs claim servers each =
    All-map (λ sample. sample.server < servers) (λ x. sample_of x claim.reading) xs
    (λ k d within. (each k d within).listed)

-- the samples keep their limits, if the exchanges do
pub lawful_samples : (xs : List Exchange) (claim : ClaimData) (servers : ℕ) → IsLawful claim →
    All (IsLawfulExchange servers) xs → All IsLawfulSample (samples_of xs claim)
lawful_samples xs claim servers lawful each =
    sample.lawful_samples servers xs claim.reading each lawful.reading_not_negative lawful.reading_in_range

-- so they are those of the claim
pub are_samples : (xs : List Exchange) (claim : ClaimData) → IsLawful claim →
    All (IsLawfulExchange (length claim.servers)) xs → AreSamplesOf claim (samples_of xs claim)
are_samples xs claim lawful each = record {
  lawful = lawful_samples xs claim (length claim.servers) lawful each;
  listed = listed_samples xs claim (length claim.servers) each;
}

-- they are those with an allowance that is the claim's
pub same_samples : (xs : List Exchange) (claim : ClaimData) (reading : ℤ) → reading ≡ claim.reading →
    samples_of xs claim ≡ map (λ x. sample_of x reading) xs
same_samples xs claim reading is = ap (λ (r : ℤ). map (λ x. sample_of x r) xs) (sym is)
