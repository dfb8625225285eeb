-- The best of a list of samples, as a relation and as a function.
use Rattle.span_cover.proofs.Common.{⊎_elim, ◌≡◌, ◌≢◌, ℕ, zero, suc, ◌+◌, ◌<◌, ◌≤◌, ℤ, ◌<ℤ◌, ◌≤ℤ◌, true, false, cond, int_lt, nat_eq, List, [], ◌∷◌, Option, None, Some, refl, sym, subst, arith, length, drop, get_or, ◌-◌, neg_ℤ, MatchOption, to_z, of_z, ap, ◌∙◌, drop_all, cases_lt, nat_tests, ints, Sample, HasNoSample, IsFirstBest, IsBestLow, IsBestHigh, better, best_from, first_best_of, best_of, pair_of, IsPiece, moved_low, moved_high, w128, option_map, w128_keeps, eqb-true, eq-eqb, int_lt-true, int_lt-false}
use Rattle.std.proofs.Math.Seq.{drop-cons}
use Rattle.std.specs.List.{slice_get}
use Rattle.std.specs.Prelude.{IfSome, IsNone, ◌↔◌}

-- the best of the samples from number n on, with its merit
pub record Found (merit : Sample → ℤ) (server n : ℕ) (samples : List Sample) (b : ℕ × ℤ) : Type 0 where
  pub place : ℕ
  pub number : b.0 ≡ n + place
  pub best : IsFirstBest merit samples server place
  pub value : b.1 ≡ merit best.sample

abbrev pub Chosen : (Sample → ℤ) → ℕ → ℕ → List Sample → Option (ℕ × ℤ) → Type 0
Chosen merit server n samples None = HasNoSample samples server
Chosen merit server n samples (Some b) = Found merit server n samples b

other_from_test : (a b : ℕ) → nat_eq a b ≡ false → a ≢ b
other_from_test a b h = grind (arith, nat_tests)

module _ (merit : Sample → ℤ) (server n : ℕ) (s : Sample) (samples : List Sample) where
  -- what was found stays, if the sample before it isn't of the server or has less merit
  still_best : (b : ℕ × ℤ) (found : Found merit server (n + 1) samples b) →
      (s.server ≡ server → merit s <ℤ merit found.best.sample) → Found merit server n (s ∷ samples) b
  still_best b found behind = record {
    place = suc found.place;
    number = omega (arith, found.number);
    best = record {
      sample = found.best.sample;
      stands = found.best.stands;
      of_server = found.best.of_server;
      greatest = greatest;
      first = first;
    };
    value = found.value;
  }
    where
      greatest : (i : ℕ) (t : Sample) → slice_get (s ∷ samples) i ≡ Some t → t.server ≡ server →
          merit t ≤ℤ merit found.best.sample
      greatest zero t is of = grind (arith, ints, behind)
      greatest (suc i) t is of = found.best.greatest i t is of

      first : (i : ℕ) (t : Sample) → slice_get (s ∷ samples) i ≡ Some t → t.server ≡ server → i < suc found.place →
          merit t <ℤ merit found.best.sample
      first zero t is of less = grind (arith, ints, behind)
      first (suc i) t is of less = found.best.first i t is of (omega arith)

  -- the sample is the best, if none that follows has more merit
  new_best : s.server ≡ server →
      ((i : ℕ) (t : Sample) → slice_get samples i ≡ Some t → t.server ≡ server → merit t ≤ℤ merit s) →
      Found merit server n (s ∷ samples) (n, merit s)
  new_best same most = record {
    place = zero;
    number = omega arith;
    best = record {
      sample = s;
      stands = refl;
      of_server = same;
      greatest = greatest;
      first = λ i t is of less. absurd (omega arith);
    };
    value = refl;
  }
    where
      greatest : (i : ℕ) (t : Sample) → slice_get (s ∷ samples) i ≡ Some t → t.server ≡ server → merit t ≤ℤ merit s
      greatest zero t is of = grind (arith, ints)
      greatest (suc i) t is of = most i t is of

  -- one sample more, of another server
  other_server : s.server ≢ server → (rest : Option (ℕ × ℤ)) → Chosen merit server (n + 1) samples rest →
      Chosen merit server n (s ∷ samples) rest
  other_server other None none = no_sample
    where
      no_sample : HasNoSample (s ∷ samples) server
      no_sample zero t is = grind (arith, other)
      no_sample (suc i) t is = none i t is
  other_server other (Some b) found = still_best b found (λ same. absurd (other same))

  later_wins : (later : ℕ × ℤ) → Found merit server (n + 1) samples later → merit s <ℤ later.1 →
      Found merit server n (s ∷ samples) later
  later_wins later found less = still_best later found (λ same. let value = found.value in omega (arith, ints))

  first_wins : s.server ≡ server → (later : ℕ × ℤ) → Found merit server (n + 1) samples later → later.1 ≤ℤ merit s →
      Found merit server n (s ∷ samples) (n, merit s)
  first_wins same later found le = new_best same (λ i t is of.
      let below = found.best.greatest i t is of in let value = found.value in omega (arith, ints))

  -- one sample more, of this server
  same_server : s.server ≡ server → (rest : Option (ℕ × ℤ)) → Chosen merit server (n + 1) samples rest →
      Chosen merit server n (s ∷ samples) (better n (merit s) rest)
  same_server same None none = new_best same (λ i t is of. absurd (none i t is of))
  same_server same (Some later) found =
      elim (int_lt (merit s) later.1) as (λ t. int_lt (merit s) later.1 ≡ t →
      Chosen merit server n (s ∷ samples) (cond t (Some later) (Some (n, merit s)))) [
        | true ↦ λ e. later_wins later found (int_lt-true (merit s) later.1 e)
        | false ↦ λ e. first_wins same later found (int_lt-false (merit s) later.1 e)
      ] refl

-- what the function gives is the best, for every list
pub chosen : (merit : Sample → ℤ) (server n : ℕ) (samples : List Sample) →
    Chosen merit server n samples (best_from merit server n samples)
chosen merit server n [] = λ i t is. absurd cc
chosen merit server n (s ∷ samples) =
    let rest = best_from merit server (n + 1) samples in
    let behind = chosen merit server (n + 1) samples in
    elim (nat_eq s.server server) as
    (λ t. nat_eq s.server server ≡ t → Chosen merit server n (s ∷ samples) (cond t (better n (merit s) rest) rest)) [
      | true ↦ λ e. same_server merit server n s samples (eqb-true s.server server e) rest behind
      | false ↦ λ e. other_server merit server n s samples (other_from_test s.server server e) rest behind
    ] refl

test_from_other : (a b : ℕ) → a ≢ b → nat_eq a b ≡ false
test_from_other a b h = grind (arith, nat_tests)

best_from-cons : (merit : Sample → ℤ) (server n : ℕ) (s : Sample) (samples : List Sample) → s.server ≡ server →
    best_from merit server n (s ∷ samples) ≡ better n (merit s) (best_from merit server (n + 1) samples)
best_from-cons merit server n s samples same = rw (eq-eqb s.server server same) refl

-- ---- the loop's step, from a number down to the one before it
module _ (merit : Sample → ℤ) (server number : ℕ) (samples : List Sample) (default : Sample) where
  before : 0 < number → number ≤ length samples →
      drop (number - 1) samples ≡ get_or samples (number - 1) default ∷ drop number samples
  before some within = grind (arith, ints, nat_tests, number, drop-cons, default)

  best_from-same : 0 < number → number ≤ length samples → (get_or samples (number - 1) default).server ≡ server →
      best_from merit server (number - 1) (drop (number - 1) samples) ≡
      better (number - 1) (merit (get_or samples (number - 1) default))
      (best_from merit server number (drop number samples))
  best_from-same some within same = grind (arith, ints, nat_tests, number, default, before, best_from-cons)

  pub best_from-step : 0 < number → number ≤ length samples → (get_or samples (number - 1) default).server ≡ server →
      (weight : ℤ) (best result : Option (ℕ × ℤ)) → weight ≡ merit (get_or samples (number - 1) default) →
      best ≡ best_from merit server number (drop number samples) → result ≡ better (number - 1) weight best →
      result ≡ best_from merit server (number - 1) (drop (number - 1) samples)
  best_from-step some within same weight best result w b r = r ∙ rw (w, b) (sym (best_from-same some within same))

  pub best_from-skipped : 0 < number → number ≤ length samples →
      (get_or samples (number - 1) default).server ≢ server → (best : Option (ℕ × ℤ)) →
      best ≡ best_from merit server number (drop number samples) →
      best ≡ best_from merit server (number - 1) (drop (number - 1) samples)
  best_from-skipped some within other best b = grind (arith, ints, nat_tests, number, default, before, test_from_other)

-- from the last number on there is none
pub best_from-end : (merit : Sample → ℤ) (server : ℕ) (samples : List Sample) →
    ◌≡◌ {A = Option (ℕ × ℤ)} None (best_from merit server (length samples) (drop (length samples) samples))
best_from-end merit server samples = rw (drop_all (length samples) samples (omega arith)) refl

-- ---- no two samples are the first best
module _ (merit : Sample → ℤ) (samples : List Sample) (server : ℕ) where
  not_before : (j k : ℕ) → IsFirstBest merit samples server j → IsFirstBest merit samples server k → k ≤ j
  not_before j k of_j of_k = ⊎_elim
      (λ less. absurd (
      let behind = of_k.first j of_j.sample of_j.stands of_j.of_server less in
      let most = of_j.greatest k of_k.sample of_k.stands of_k.of_server in
      omega (arith, ints)))
      (λ le. le)
      (cases_lt j k)

  pub IsFirstBest-one : (j k : ℕ) → IsFirstBest merit samples server j → IsFirstBest merit samples server k → j ≡ k
  IsFirstBest-one j k of_j of_k = omega (arith, not_before j k of_j of_k, not_before k j of_k of_j)

-- ---- the first best of a list
module _ (merit : Sample → ℤ) (samples : List Sample) (server : ℕ) where
  first_chosen : (b : Option (ℕ × ℤ)) → Chosen merit server 0 samples b →
      MatchOption (option_map (λ (b : ℕ × ℤ). b.0) b) (HasNoSample samples server) (IsFirstBest merit samples server)
  first_chosen None none = none
  first_chosen (Some b) found =
      let at : b.0 ≡ found.place = omega (arith, found.number) in
      subst (IsFirstBest merit samples server) (sym at) found.best

  first : MatchOption (first_best_of merit samples server) (HasNoSample samples server)
      (IsFirstBest merit samples server)
  first = first_chosen (best_from merit server 0 samples) (chosen merit server 0 samples)

  -- whoever has the first best has what the function gives
  pub first_best_of-is : (k : ℕ) → IsFirstBest merit samples server k → first_best_of merit samples server ≡ Some k
  first_best_of-is k is =
      elim (first_best_of merit samples server) as
      (λ (o : Option ℕ). MatchOption o (HasNoSample samples server) (IsFirstBest merit samples server) → o ≡ Some k) [
        | None ↦ λ none. absurd (none k is.sample is.stands is.of_server)
        | Some j ↦ λ found. ap Some (IsFirstBest-one merit samples server j k found is)
      ] first

  pub first_best_of-none : HasNoSample samples server → first_best_of merit samples server ≡ None
  first_best_of-none none =
      elim (first_best_of merit samples server) as
      (λ (o : Option ℕ). MatchOption o (HasNoSample samples server) (IsFirstBest merit samples server) → o ≡ None) [
        | None ↦ λ none. refl
        | Some j ↦ λ found. absurd (none j found.sample found.stands found.of_server)
      ] first

-- the pair of both
pub best_of-is : (samples : List Sample) (server : ℕ) (p q : ℤ) (ppb : ℕ) (low high : Option ℕ) →
    first_best_of (λ s. moved_low s p q ppb) samples server ≡ low →
    first_best_of (λ s. neg_ℤ (moved_high s p q ppb)) samples server ≡ high →
    best_of samples server p q ppb ≡ pair_of low high
unfolding best_of
best_of-is samples server p q ppb low high a b = rw (a, b) refl

-- a piece's ends are passed on as they are
pub ends_kept : (p q : ℤ) → IsPiece p q → (to_z w128 (of_z w128 p) ≡ p) × (to_z w128 (of_z w128 q) ≡ q)
ends_kept p q piece = (w128_keeps p (omega (arith, ints)), w128_keeps q (omega (arith, ints)))

-- ---- both ends
module _ (samples : List Sample) (server : ℕ) (p q : ℤ) (ppb : ℕ) where
  pub best_of-best : (low high : ℕ) → IsBestLow samples server p q ppb low → IsBestHigh samples server p q ppb high →
      best_of samples server p q ppb ≡ Some (low, high)
  best_of-best low high a b =
      best_of-is samples server p q ppb (Some low) (Some high)
      (first_best_of-is (λ s. moved_low s p q ppb) samples server low a)
      (first_best_of-is (λ s. neg_ℤ (moved_high s p q ppb)) samples server high b)

  pub best_of-none : HasNoSample samples server → best_of samples server p q ppb ≡ None
  best_of-none none = grind (arith, ints, nat_tests, best_of-is, q, first_best_of-none)

  -- the numbers that the function gives
  abbrev pub AreBest : ℕ × ℕ → Type 0
  AreBest best = IsBestLow samples server p q ppb best.0 × IsBestHigh samples server p q ppb best.1

  pub best_numbers : MatchOption (best_of samples server p q ppb) (HasNoSample samples server) AreBest
  unfolding best_of
  best_numbers =
      elim (first_best_of (λ s. moved_low s p q ppb) samples server) as
      (λ (low : Option ℕ). MatchOption low (HasNoSample samples server) (IsBestLow samples server p q ppb) →
      MatchOption (pair_of low (first_best_of (λ s. neg_ℤ (moved_high s p q ppb)) samples server))
      (HasNoSample samples server) AreBest) [
        | None ↦ λ none. none
        | Some low ↦ λ is_low.
            elim (first_best_of (λ s. neg_ℤ (moved_high s p q ppb)) samples server) as
            (λ (high : Option ℕ). MatchOption high (HasNoSample samples server) (IsBestHigh samples server p q ppb) →
            MatchOption (pair_of (Some low) high) (HasNoSample samples server) AreBest) [
              | None ↦ λ none. none
              | Some high ↦ λ is_high. (is_low, is_high)
            ] (first (λ s. neg_ℤ (moved_high s p q ppb)) samples server)
      ] (first (λ s. moved_low s p q ppb) samples server)

  -- a result that is the function's is none if there is no sample, and otherwise the best
  module _ (result : Option (ℕ × ℕ)) (is : result ≡ best_of samples server p q ppb) where
    pub told : (IsNone result ↔ HasNoSample samples server)
        × IfSome result (λ best. IsBestLow samples server p q ppb best.0)
        × IfSome result (λ best. IsBestHigh samples server p q ppb best.1)
    told =
        elim result as (λ (o : Option (ℕ × ℕ)). MatchOption o (HasNoSample samples server) AreBest →
        (IsNone o ↔ HasNoSample samples server) × IfSome o (λ best. IsBestLow samples server p q ppb best.0)
        × IfSome o (λ best. IsBestHigh samples server p q ppb best.1)) [
          | None ↦ λ none. ((λ e. none, λ e. refl), tt, tt)
          | Some best ↦ λ are. (
            (λ e. absurd cc, λ none. absurd (none best.0 are.0.sample are.0.stands are.0.of_server)),
            are.0,
            are.1,
          )
        ] (rw is best_numbers)
