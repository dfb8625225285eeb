-- The extremes of a server's samples.
use Rattle.sweep.proofs.Common.{◌≡◌, ℕ, ◌+◌, ◌<◌, ◌≤◌, ◌^◌, ℤ, List, [], ◌∷◌, ◌++◌, length, map, take, Some, arith, get_or, sym, ◌∙◌, ap, neg_ℤ, unsigned_abs, ◌≢◌, ◌≤ℤ◌, slice_get, All, ints, length-append, length-map, get_or-map, map_more, slice_get-get_or, slice_get-below, slice_get_within, get_or_from_slice_get, Sample, HasNoSample, IsEndAt, IsExtremeOf, IsOfServer, IsLawfulExtreme, AreExtremesOf, Extreme, Side, Low, High}
use Rattle.sample_interval.specs.Sample.{IsLawfulSample}
use Rattle.sweep.proofs.List.{below_next, each_pushed, slice_get-front, slice_get-last}

lawful_end : (value start stop : ℤ) (extreme : Extreme) → unsigned_abs value ≤ 2 ^ 72 → unsigned_abs start ≤ 2 ^ 72 →
    start ≤ℤ stop → unsigned_abs stop ≤ 2 ^ 72 → IsEndAt value start stop extreme → IsLawfulExtreme extreme
lawful_end value start stop extreme a b c d is = omega (arith, ints)

lawful_extreme : (side : Side) (sample : Sample) (extreme : Extreme) → IsLawfulSample sample →
    IsExtremeOf side sample extreme →
    IsLawfulExtreme extreme
lawful_extreme Low sample extreme s is =
    lawful_end sample.low sample.low_from sample.low_to extreme s.low s.low_from s.low_window_in_order s.low_to is
lawful_extreme High sample extreme s is =
    lawful_end (neg_ℤ sample.high) sample.high_from sample.high_to extreme (omega (arith, ints, s.high)) s.high_from
    s.high_window_in_order s.high_to is

-- ---- the server of each sample, in a list of its own
module _ (samples : List Sample) (servers : List ℕ) (are : servers ≡ map (λ sample. sample.server) samples) where
  pub as_many_servers : length servers ≡ length samples
  as_many_servers = rw are (length-map samples (λ sample. sample.server))

  pub server_at : (number : ℕ) (sample : Sample) (d : ℕ) → slice_get samples number ≡ Some sample →
      get_or servers number d ≡ sample.server
  server_at number sample d is =
      let within = slice_get_within samples number sample is in
      rw are (get_or-map (λ sample. sample.server) samples number sample d within
      ∙ ap (λ s. s.server) (get_or_from_slice_get samples number sample sample is))

-- the server of one more sample
pub servers_more : (samples : List Sample) (n : ℕ) (sample : Sample) → slice_get samples n ≡ Some sample →
    (servers pushed : List ℕ) → servers ≡ map (λ s. s.server) (take n samples) → pushed ≡ servers ++
    sample.server ∷ [] →
    pushed ≡ map (λ s. s.server) (take (n + 1) samples)
servers_more samples n sample is servers pushed so_far more =
    let here : get_or samples n sample ≡ sample = get_or_from_slice_get samples n sample sample is in
    grind (arith, map_more (λ (s : Sample). s.server) samples n sample (slice_get_within samples n sample is))

-- the extremes of the samples below number n
pub record ExtremesSoFar (side : Side) (samples : List Sample) (server n : ℕ) (extremes : List Extreme) : Type 0 where
  pub few : length extremes ≤ n
  pub each : (index : ℕ) (extreme : Extreme) → slice_get extremes index ≡ Some extreme →
      IsOfServer side samples server extreme × (extreme.number < n)
  pub all : (number : ℕ) (sample : Sample) → number < n → slice_get samples number ≡ Some sample →
      sample.server ≡ server →
      (index : ℕ) × (extreme : Extreme) × (slice_get extremes index ≡ Some extreme) × (extreme.number ≡ number)
  pub rising : (i j : ℕ) (a b : Extreme) → i < j → slice_get extremes i ≡ Some a → slice_get extremes j ≡ Some b →
      a.number < b.number

module _ (side : Side) (samples : List Sample) (server n : ℕ) (extremes : List Extreme)
    (so_far : ExtremesSoFar side samples server n extremes) where
  pub ExtremesSoFar-all : length samples ≡ n → AreExtremesOf side samples server extremes
  ExtremesSoFar-all enough = record {
    few = omega (arith, so_far.few);
    each = λ index extreme is. (so_far.each index extreme is).0;
    all = λ number sample is of.
        let within = slice_get_within samples number sample is in
        so_far.all number sample (omega arith) is of;
    rising = so_far.rising;
  }

  -- a sample of another server
  pub ExtremesSoFar-other : (sample : Sample) → slice_get samples n ≡ Some sample → sample.server ≢ server →
      ExtremesSoFar side samples server (n + 1) extremes
  ExtremesSoFar-other sample here other = record {
    few = omega arith;
    each = λ index extreme is.
        let known = so_far.each index extreme is in
        (known.0, omega arith);
    all = below_next (λ number s. s.server ≡ server → (index : ℕ) × (extreme : Extreme)
        × (slice_get extremes index ≡ Some extreme) × (extreme.number ≡ number)) samples n sample here so_far.all
        (λ of. absurd (other of));
    rising = so_far.rising;
  }

  -- a sample of this one
  pub ExtremesSoFar-more : (sample : Sample) (extreme : Extreme) → slice_get samples n ≡ Some sample →
      sample.server ≡ server → IsLawfulSample sample → extreme.number ≡ n → IsExtremeOf side sample extreme →
      ExtremesSoFar side samples server (n + 1) (extremes ++ extreme ∷ [])
  ExtremesSoFar-more sample extreme here of_server s number is = record {
    few = omega (arith, so_far.few, length-append extremes (extreme ∷ []));
    each = each_pushed (λ index b. IsOfServer side samples server b × (b.number < n + 1)) extremes extreme
        (λ index b old. let known = so_far.each index b old in (known.0, omega arith))
        (grind (arith, lawful_extreme side sample extreme s is), omega (arith, number));
    all = below_next (λ k t. t.server ≡ server → (index : ℕ) × (b : Extreme)
        × (slice_get (extremes ++ extreme ∷ []) index ≡ Some b) × (b.number ≡ k)) samples n sample here
        (λ k t below at of.
        let old = so_far.all k t below at of in
        let within = slice_get_within extremes old.0 old.1 old.2 in
        (old.0, old.1, slice_get-front extremes extreme old.0 within ∙ old.2, old.3))
        (λ of. (length extremes, extreme, slice_get-last extremes extreme, number));
    rising = λ i j a b less at_i at_j.
        let front : i < length extremes → slice_get extremes i ≡ Some a =
        λ below. sym (slice_get-front extremes extreme i below) ∙ at_i in
        each_pushed (λ j b. i < j → a.number < b.number) extremes extreme
        (λ j b is less.
        let within = slice_get_within extremes j b is in
        so_far.rising i j a b less (front (omega arith)) is)
        (λ less. omega (arith, number, (so_far.each i a (front less)).1)) j b at_j less;
  }

-- ---- of all of them
module _ (side : Side) (samples : List Sample) (server : ℕ) (extremes : List Extreme)
    (are : AreExtremesOf side samples server extremes) where
  pub lawful_extremes : All IsLawfulExtreme extremes
  lawful_extremes k d within = (are.each k (get_or extremes k d) (slice_get-get_or extremes k d within)).lawful

  pub some_sample : 0 < length extremes → ¬ HasNoSample samples server
  some_sample some none =
      let first = slice_get-below extremes 0 some in
      let own = are.each 0 first.0 first.1 in
      none first.0.number own.sample own.stands own.of_server
