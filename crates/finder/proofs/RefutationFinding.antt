-- What it says that a refutation is found, or none.
use Rattle.finder.proofs.Common.{◌≡◌, ℕ, ◌≤◌, ◌^◌, ℤ, neg_ℤ, ◌≤ℤ◌, ◌<ℤ◌, unsigned_abs, Bool, false, true≢false, List, length, Option, Some, None, refl, sym, ap, ◌∙◌, subst, ⊎_elim, arith, filter, option_map, All, ints, RefutationData, ClaimData, IsLawful, Exchange, Interval, IsRefuted, numbers_below, AreRooms, refused_by, refuses, IsErrorOf64Bits, IsFirstBeyond, IsNearest, IsNearestRefutation, NoneIsRefuted, greatest_error, is_possible, least_error_below, nearest, refutation_at, nearest_error}
use Rattle.std.specs.Option.{option_or}
use Rattle.pairing.specs.Exchange.{IsLawful as IsLawfulExchange}
use Rattle.finder.proofs.Liar.{possible_of, refuted_at, same_passing_test}
use Rattle.finder.proofs.GroupLeeway.{negated}
use Rattle.finder.proofs.Nearest.{int_cases}
use Rattle.finder.proofs.RefutationSearch.{nearest_is}

-- ---- what is found

module _ (claim : ClaimData) (lawful : IsLawful claim) (xs : List Exchange)
    (each : All (IsLawfulExchange (length claim.servers)) xs) where
  abbrev above : ℤ → Bool
  above error = is_possible claim xs error

  abbrev below : ℤ → Bool
  below error = is_possible claim xs (neg_ℤ error)

  abbrev up : Option ℤ
  up = nearest above claim.bound greatest_error

  abbrev down : Option ℤ
  down = nearest below claim.bound least_error_below

  -- no error above the bound, or none below it on the other side, is that of a refutation
  abbrev NoneAbove : Type 0
  NoneAbove = (other : ℤ) → claim.bound <ℤ other → other ≤ℤ greatest_error → is_possible claim xs other ≡ false

  abbrev NoneBelow : Type 0
  NoneBelow = (other : ℤ) → claim.bound <ℤ other → other ≤ℤ least_error_below
      → is_possible claim xs (neg_ℤ other) ≡ false

  not_refuted : (other : RefutationData) → IsRefuted claim xs other → is_possible claim xs other.error ≡ false → ⊥
  not_refuted other refuted fails = true≢false (sym (possible_of claim lawful xs each other refuted) ∙ fails)

  negative_fails : (error : ℤ) → below (neg_ℤ error) ≡ false → above error ≡ false
  negative_fails error fails = sym (ap above (negated error)) ∙ fails

  not_above : NoneAbove → (other : RefutationData) → IsErrorOf64Bits other.error → IsRefuted claim xs other
      → other.error ≤ℤ claim.bound
  not_above none other of_64_bits refuted = ⊎_elim
      (λ over. absurd (not_refuted other refuted (none other.error over of_64_bits.not_above)))
      (λ not_over. not_over)
      (int_cases claim.bound other.error)

  found_above : (error : ℤ) → IsFirstBeyond above claim.bound greatest_error error
      → IsNearestRefutation claim xs (refutation_at claim xs error)
  found_above error is = record {
    accepted = refuted_at claim lawful xs each error (omega (arith, ints, is.beyond)) is.passes;
    least_above = λ over other refuted other_over. ⊎_elim
        (λ less. absurd (not_refuted other refuted (is.others_fail other.error other_over less)))
        (λ le. le)
        (int_cases other.error error);
    none_above = λ under. absurd (omega (arith, ints, is.beyond, under));
    greatest_below = λ under. absurd (omega (arith, ints, is.beyond, under));
    liars = refl;
    reading = refl;
  }

  found_below : NoneAbove → (number : ℤ) → IsFirstBeyond below claim.bound least_error_below number
      → IsNearestRefutation claim xs (refutation_at claim xs (neg_ℤ number))
  found_below none number is = record {
    accepted = refuted_at claim lawful xs each (neg_ℤ number) (omega (arith, ints, is.beyond)) is.passes;
    least_above = λ over. absurd (omega (arith, ints, is.beyond, over));
    none_above = λ under other of_64_bits refuted. not_above none other of_64_bits refuted;
    liars = refl;
    reading = refl;
    greatest_below = λ under other of_64_bits refuted.
        let not_over = not_above none other of_64_bits refuted in
        ⊎_elim
        (λ less. absurd (not_refuted other refuted (negative_fails other.error
        (is.others_fail (neg_ℤ other.error) (omega (arith, ints)) less))))
        (λ le. omega (arith, ints))
        (int_cases (neg_ℤ other.error) number);
  }

  none_found : NoneAbove → NoneBelow → NoneIsRefuted claim xs
  none_found no_more no_less other of_64_bits refuted =
      let not_over = not_above no_more other of_64_bits refuted in
      not_refuted other refuted (negative_fails other.error
      (no_less (neg_ℤ other.error) (omega (arith, ints)) (omega (arith, ints))))

  -- what is said by what was sought
  abbrev Says : Option ℤ → Type 0
  Says (Some error) = IsNearestRefutation claim xs (refutation_at claim xs error)
  Says None = NoneIsRefuted claim xs

  says_of : (a b : Option ℤ) → IsNearest above claim.bound greatest_error a
      → IsNearest below claim.bound least_error_below b → Says (option_or a (option_map neg_ℤ b))
  says_of (Some error) b is_a is_b = found_above error is_a
  says_of None (Some number) is_a is_b = found_below is_a number is_b
  says_of None None is_a is_b = none_found is_a is_b

  says : Says (nearest_error claim xs)
  unfolding nearest_error
  says = says_of up down (nearest_is above claim.bound greatest_error (omega (arith, ints)))
      (nearest_is below claim.bound least_error_below (omega (arith, ints)))

  pub says_some : (error : ℤ) → nearest_error claim xs ≡ Some error
      → IsNearestRefutation claim xs (refutation_at claim xs error)
  says_some error is = subst Says is says

  pub says_none : nearest_error claim xs ≡ None → NoneIsRefuted claim xs
  says_none is = subst Says is says

  -- the code makes this refutation of it
  pub refutation_is : (rooms : List Interval) → AreRooms claim.reading xs rooms → (found : ℤ)
      → IsErrorOf64Bits found → (liars : List ℕ) (reading : ℕ)
      → liars ≡ filter (refused_by rooms found) (numbers_below (length claim.servers))
      → reading ≡ unsigned_abs claim.first
      → ◌≡◌ {A = RefutationData} (record { error = found; liars = liars; reading = reading })
      (refutation_at claim xs found)
  refutation_is rooms are found in_range liars reading a b =
      let near : unsigned_abs found ≤ 2 ^ 64 = omega (arith, ints) in
      let same = a ∙ same_passing_test (refused_by rooms found) (refuses claim.reading xs found) (length claim.servers)
      (λ server within. (are server (omega (arith, within))).leaves_out_refused found near) in
      rw (same, b) refl
