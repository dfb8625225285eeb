-- Which refutation of a claim is found: the one with the error nearest above the bound, or, if
-- there is none, the one with the error nearest below it on the other side.
--
-- For one error, the servers that have to be false are those that have an exchange with no room for
-- it. If these are of few enough groups, then they, the error and the span's first reading are a
-- refutation; and if they aren't, then no refutation with that error is accepted.
use Rattle.std.specs.Prelude.{◌≡◌, ℕ, ◌+◌, ◌-◌, ◌^◌, ℤ, pos, neg_ℤ, ◌+ℤ◌, ◌-ℤ◌, ◌≤ℤ◌, ◌<ℤ◌, nat_le, unsigned_abs, Bool, true, false, List, length, filter, Option, Some, None, option_map}
use Rattle.finder.specs.Common.{find, range_with_len, option_or, RefutationData, ClaimData, Exchange, false_group_count, numbers_below, IsRefuted}
use Rattle.finder.specs.Room.{refuses}

-- the greatest error of a refutation, and how far below zero the least one is
abbrev pub greatest_error : ℤ
greatest_error = pos (2 ^ 63 - 1)

abbrev pub least_error_below : ℤ
least_error_below = pos (2 ^ 63)

-- an error that a refutation can have
pub record IsErrorOf64Bits (error : ℤ) : Type 0 where
  pub not_below : neg_ℤ least_error_below ≤ℤ error
  pub not_above : error ≤ℤ greatest_error

-- ---- the nearest number beyond a bound

-- the first number after a bound that passes a test, of those up to a limit
pub record IsFirstBeyond (test : ℤ → Bool) (bound limit number : ℤ) : Type 0 where
  pub beyond : bound <ℤ number
  pub within : number ≤ℤ limit
  pub passes : test number ≡ true
  pub others_fail : (other : ℤ) → bound <ℤ other → other <ℤ number → test other ≡ false

-- this is it, or none passes
abbrev pub IsNearest : (ℤ → Bool) → ℤ → ℤ → Option ℤ → Type 0
IsNearest test bound limit (Some number) = IsFirstBeyond test bound limit number
IsNearest test bound limit None =
    (other : ℤ) → bound <ℤ other → other ≤ℤ limit → test other ≡ false

-- the same as a value: the numbers after the bound, one after another
abbrev pub after : ℤ → ℕ → ℤ
after bound n = bound +ℤ pos (n + 1)

abbrev pub nearest : (ℤ → Bool) → ℤ → ℤ → Option ℤ
nearest test bound limit =
    option_map (after bound)
    (find (λ n. test (after bound n)) (range_with_len 0 (unsigned_abs (limit -ℤ bound))))

-- ---- what is found

module _ (claim : ClaimData) (xs : List Exchange) where
  -- at most `false_max` groups hold a server that has no room for the error
  abbrev pub is_possible : ℤ → Bool
  is_possible error =
      nat_le (false_group_count claim.groups (refuses claim.reading xs error)) claim.false_max

  -- the refutation with this error: by just the servers that have no room for it, in their order
  abbrev pub refutation_at : ℤ → RefutationData
  refutation_at error = record {
    error = error;
    liars = filter (refuses claim.reading xs error) (numbers_below (length claim.servers));
    reading = unsigned_abs claim.first;
  }

  -- the error: above the bound, or else below it on the other side
  unfoldable pub nearest_error : Option ℤ
  nearest_error =
      option_or (nearest is_possible claim.bound greatest_error)
      (option_map neg_ℤ
      (nearest (λ error. is_possible (neg_ℤ error)) claim.bound least_error_below))

  -- the refutation that is found
  abbrev pub nearest_refutation : Option RefutationData
  nearest_refutation = option_map refutation_at nearest_error

  -- no refutation is accepted
  abbrev pub NoneIsRefuted : Type 0
  NoneIsRefuted = (other : RefutationData) → IsErrorOf64Bits other.error
      → ¬ (IsRefuted claim xs other)

  -- of the refutations that are accepted this one has the least error above the bound; or none has
  -- an error above it, and this one the greatest below it on the other side. It names just the
  -- servers that have no room for its error, in their order, and the first reading of the span.
  pub record IsNearestRefutation (found : RefutationData) : Type 0 where
    pub accepted : IsRefuted claim xs found
    pub least_above : claim.bound <ℤ found.error → (other : RefutationData)
        → IsRefuted claim xs other → claim.bound <ℤ other.error → found.error ≤ℤ other.error
    pub none_above : found.error <ℤ neg_ℤ claim.bound → (other : RefutationData)
        → IsErrorOf64Bits other.error → IsRefuted claim xs other → other.error ≤ℤ claim.bound
    pub greatest_below : found.error <ℤ neg_ℤ claim.bound → (other : RefutationData)
        → IsErrorOf64Bits other.error → IsRefuted claim xs other → other.error ≤ℤ found.error
    pub liars : found.liars
        ≡ filter (refuses claim.reading xs found.error) (numbers_below (length claim.servers))
    pub reading : found.reading ≡ unsigned_abs claim.first
