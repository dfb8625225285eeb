-- Which refutation is found.
use Rattle.finder.proofs.Common.{◌≡◌, ℕ, ◌-◌, ℤ, neg_ℤ, ◌-ℤ◌, ◌≤ℤ◌, ◌<ℤ◌, nat_le, unsigned_abs, Bool, true≢false, List, Option, Some, None, refl, sym, ap, ◌∙◌, ⊎_elim, arith, option_map, find, range_with_len, ints, ClaimData, IsLawful, Exchange, Interval, Side, Above, Below, greatest_of, turned, AreRooms, IsNear, possible_by, refused_by, refuses, IsFirstBeyond, IsNearest, after, greatest_error, is_possible, least_error_below, nearest, nearest_error, ≤ℤ_antisymm}
use Rattle.std.specs.Option.{option_or}
use Rattle.finder.proofs.Claim.{few_groups}
use Rattle.finder.proofs.Group.{as_many_groups}
use Rattle.finder.proofs.List.{find_is_first, find_is_none}
use Rattle.finder.proofs.Nearest.{after_is, int_cases}

-- ---- the nearest number as a value

module _ (test : ℤ → Bool) (bound limit : ℤ) where
  nearest_at : (o : Option ℕ)
      → find (λ k. test (after bound k)) (range_with_len 0 (unsigned_abs (limit -ℤ bound))) ≡ o
      → bound ≤ℤ limit → IsNearest test bound limit (option_map (after bound) o)
  nearest_at None is some = λ other above le.
      sym (ap test (after_is bound other above))
      ∙ find_is_none (λ k. test (after bound k)) 0 (unsigned_abs (limit -ℤ bound)) is
      (unsigned_abs (other -ℤ bound) - 1) (omega arith) (omega (arith, ints))
  nearest_at (Some n) is some =
      let found = find_is_first (λ k. test (after bound k)) 0 (unsigned_abs (limit -ℤ bound)) n is in
      record {
        beyond = omega (arith, ints);
        within = omega (arith, ints);
        passes = found.passes;
        others_fail = λ other above below.
            sym (ap test (after_is bound other above))
            ∙ found.others_fail (unsigned_abs (other -ℤ bound) - 1) (omega arith) (omega (arith, ints));
      }

  pub nearest_is : bound ≤ℤ limit → IsNearest test bound limit (nearest test bound limit)
  nearest_is some = nearest_at _ refl some

-- no other number is
module _ (bound limit : ℤ) where
  no_later : (p q : ℤ → Bool) (a b : ℤ) → ((other : ℤ) → bound <ℤ other → other ≤ℤ limit → p other ≡ q other)
      → IsFirstBeyond p bound limit a → IsFirstBeyond q bound limit b → b ≤ℤ a
  no_later p q a b same is_a is_b = ⊎_elim
      (λ less. absurd (true≢false (sym is_a.passes ∙ same a is_a.beyond is_a.within
      ∙ is_b.others_fail a is_a.beyond less)))
      (λ le. le)
      (int_cases a b)

  one_nearest : (p q : ℤ → Bool) (a b : Option ℤ)
      → ((other : ℤ) → bound <ℤ other → other ≤ℤ limit → p other ≡ q other)
      → IsNearest p bound limit a → IsNearest q bound limit b → b ≡ a
  one_nearest p q None None same is_a is_b = refl
  one_nearest p q None (Some b) same is_a is_b =
      absurd (true≢false (sym is_b.passes ∙ sym (same b is_b.beyond is_b.within) ∙ is_a b is_b.beyond is_b.within))
  one_nearest p q (Some a) None same is_a is_b =
      absurd (true≢false (sym is_a.passes ∙ same a is_a.beyond is_a.within ∙ is_b a is_a.beyond is_a.within))
  one_nearest p q (Some a) (Some b) same is_a is_b =
      ap Some (≤ℤ_antisymm b a (no_later p q a b same is_a is_b)
      (no_later q p b a (λ other beyond within. sym (same other beyond within)) is_b is_a))

  pub found_is : bound ≤ℤ limit → (held test : ℤ → Bool)
      → ((other : ℤ) → bound <ℤ other → other ≤ℤ limit → held other ≡ test other) → (a : Option ℤ)
      → IsNearest held bound limit a → nearest test bound limit ≡ a
  found_is some held test same a is =
      one_nearest held test a (nearest test bound limit) same is (nearest_is test bound limit some)

-- ---- what the intervals say

pub possible_is : (claim : ClaimData) → IsLawful claim → (xs : List Exchange) (rooms : List Interval)
    → AreRooms claim.reading xs rooms → (error : ℤ) → IsNear error
    → possible_by rooms claim error ≡ is_possible claim xs error
possible_is claim lawful xs rooms are error near =
    let few = few_groups claim lawful in
    ap (λ n. nat_le n claim.false_max)
    (as_many_groups claim.groups (refused_by rooms error) (refuses claim.reading xs error)
    (λ server below. (are server (omega arith)).leaves_out_refused error near))

-- the error that is found, above or below
module _ (claim : ClaimData) (lawful : IsLawful claim) (xs : List Exchange) (rooms : List Interval)
    (are : AreRooms claim.reading xs rooms) where
  pub sought_is : (side : Side) (o : Option ℤ)
      → IsNearest (λ error. possible_by rooms claim (turned side error)) claim.bound (greatest_of side) o
      → nearest (λ error. is_possible claim xs (turned side error)) claim.bound (greatest_of side) ≡ o
  sought_is Above o is =
      found_is claim.bound greatest_error (omega (arith, ints)) (possible_by rooms claim) (is_possible claim xs)
      (λ other beyond within. possible_is claim lawful xs rooms are other (omega (arith, ints))) o is
  sought_is Below o is =
      found_is claim.bound least_error_below (omega (arith, ints)) (λ error. possible_by rooms claim (neg_ℤ error))
      (λ error. is_possible claim xs (neg_ℤ error))
      (λ other beyond within. possible_is claim lawful xs rooms are (neg_ℤ other) (omega (arith, ints))) o is

  pub nearest_of : (a b : Option ℤ) → nearest (is_possible claim xs) claim.bound greatest_error ≡ a
      → nearest (λ error. is_possible claim xs (neg_ℤ error)) claim.bound least_error_below ≡ b
      → nearest_error claim xs ≡ option_or a (option_map neg_ℤ b)
  unfolding nearest_error
  nearest_of a b is_a is_b = rw (is_a, is_b) refl
