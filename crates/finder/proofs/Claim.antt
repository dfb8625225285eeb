-- The numbers of a claim that keeps its limits, as 128 bits hold them.
use Rattle.finder.proofs.Common.{◌≡◌, ℕ, ◌<◌, ◌≤◌, ◌^◌, ◌-ℤ◌, unsigned_abs, length, to_z, of_z, Fits, w8, arith, ints, fits_signed_from_abs, non_neg, yes_non_neg, T, w128, SFits, ClaimData, IsLawful, w128_keeps_difference, first_kept, last_kept}

module _ (claim : ClaimData) (lawful : IsLawful claim) where
  -- ---- the length of its span

  pub length_kept : to_z w128 (of_z w128 (to_z w128 (of_z w128 claim.last) -ℤ to_z w128 (of_z w128 claim.first)))
      ≡ claim.last -ℤ claim.first
  length_kept =
      w128_keeps_difference claim.last claim.first (omega (arith, ints)) (omega (arith, ints))

  pub length_fits : SFits w128 (to_z w128 (of_z w128 claim.last) -ℤ to_z w128 (of_z w128 claim.first))
  length_fits =
      rw (last_kept claim lawful, first_kept claim lawful)
      (fits_signed_from_abs w128 (claim.last -ℤ claim.first) (omega (arith, ints)))

  pub length_below : unsigned_abs (claim.last -ℤ claim.first) < 2 ^ 64
  length_below = omega (arith, ints)

  pub length_from_zero : T (non_neg (to_z w128 (of_z w128
      (to_z w128 (of_z w128 claim.last) -ℤ to_z w128 (of_z w128 claim.first)))))
  length_from_zero = rw length_kept (yes_non_neg (omega (arith, ints)))

  pub length_fits_unsigned : Fits w128 (unsigned_abs (to_z w128 (of_z w128
      (to_z w128 (of_z w128 claim.last) -ℤ to_z w128 (of_z w128 claim.first)))))
  length_fits_unsigned = let below = length_below in rw length_kept (record { fits = omega arith })

  -- ---- its servers and groups

  pub server_fits : (server count : ℕ) → server < count → count ≡ length claim.servers → Fits w8 server
  server_fits server count below is = record { fits = omega arith }

  pub few_groups : length claim.groups ≤ 32
  few_groups = omega arith
