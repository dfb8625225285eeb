-- An extreme reaches a level if it does so as an early one, or as one that is early with time running
-- backwards.
use Rattle.sweep.proofs.Common.{◌≡◌, ℕ, ◌+◌, ◌-◌, ◌*◌, ◌<◌, ◌≤◌, List, length, map, arith, sym, ◌∙◌, subst, ap, get_or, slice_get-get_or, ◌⊎◌, inl, inr, ⊎_elim, All, cases_lt, mul-le-mul_right, le_of_mul-le-mul_left, IsRate, IsWidening, widening, billion, IsLawfulExtreme, mirrored_extreme, IsLawfulStretch, mirrored_stretch, IsAtLeast, IsEarly, IsEarlyAtLeast, distance, height, height_for, Extreme, UnsignedStretch, All-slice_get}
use Rattle.era_unfold.specs.Ratio.{IsCeiling}
use Rattle.sweep.proofs.List.{map_at, at_map}
use Rattle.sweep.proofs.Mirror.{lawful-mirrored_extreme, lawful-mirrored_stretch, distance-mirrored}

-- ---- in plain numbers: an extreme's end and begin, and the end of a stretch at this distance
module _ (scale rate distance from to end level wide : ℕ) (apart : distance + from ≡ to)
    (ceiling : IsCeiling (rate * distance) scale wide) where
  moved : rate * to ≡ rate * distance + rate * from
  moved = rw (← apart) (omega arith)

  pub height_from : level + wide ≤ end → level * scale + rate * to ≤ scale * end + rate * from
  height_from le = grind (arith, moved, mul-le-mul_right scale le)

  pub from_height : 0 < scale → level * scale + rate * to ≤ scale * end + rate * from → level + wide ≤ end
  from_height positive le =
      let enough : level * scale + rate * distance ≤ scale * end = omega (arith, moved) in
      let below : level ≤ end = le_of_mul-le-mul_left {k = scale} (omega arith) positive in
      let rest : end ≡ level + (end - level) = omega arith in
      let split : scale * end ≡ scale * level + (end - level) * scale = ap (λ (e : ℕ). scale * e) rest ∙ omega arith in
      omega (arith, ceiling.least (end - level) (omega arith))

module _ (widens : (ppb distance : ℕ) → ppb < billion → IsWidening ppb distance (widening ppb distance)) (ppb : ℕ)
    (slow : IsRate ppb) where
  -- an early extreme's distance is from its begin to the stretch's end
  early_distance : (extreme : Extreme) (stretch : UnsignedStretch) → IsLawfulExtreme extreme → IsLawfulStretch stretch →
      IsEarly extreme stretch →
      distance extreme stretch + extreme.from ≡ stretch.end
  early_distance extreme stretch b s early = omega (arith, b.in_order, s.in_order)

  module _ (extreme : Extreme) (stretch : UnsignedStretch) (b : IsLawfulExtreme extreme) (s : IsLawfulStretch stretch)
      (level : ℕ) where
    early_height : IsEarly extreme stretch → level + widening ppb (distance extreme stretch) ≤ extreme.end →
        height_for ppb stretch.end level ≤ height ppb extreme
    early_height early =
        height_from (billion - ppb) ppb (distance extreme stretch) extreme.from stretch.end extreme.end level
        (widening ppb (distance extreme stretch)) (early_distance extreme stretch b s early)
        (widens ppb (distance extreme stretch) (omega arith))

    early_reaches : IsEarly extreme stretch → height_for ppb stretch.end level ≤ height ppb extreme →
        level + widening ppb (distance extreme stretch) ≤ extreme.end
    early_reaches early =
        from_height (billion - ppb) ppb (distance extreme stretch) extreme.from stretch.end extreme.end level
        (widening ppb (distance extreme stretch)) (early_distance extreme stretch b s early)
        (widens ppb (distance extreme stretch) (omega arith)) (omega arith)

  module _ (extremes : List Extreme) (stretch : UnsignedStretch) (all : All IsLawfulExtreme extremes)
      (s : IsLawfulStretch stretch) where
    pub reaches_either : (index level : ℕ) → IsAtLeast ppb extremes stretch index level →
        IsEarlyAtLeast ppb extremes stretch index level
        ⊎ IsEarlyAtLeast ppb (map mirrored_extreme extremes) (mirrored_stretch stretch) index level
    reaches_either index level is =
        let extreme = is.extreme in
        let b = All-slice_get IsLawfulExtreme extremes index extreme all is.stands in
        let same = distance-mirrored extreme stretch b s in
        let enough = is.at_least in
        ⊎_elim
        (λ late. inr (record {
          extreme = mirrored_extreme extreme;
          stands = map_at mirrored_extreme extremes index extreme is.stands;
          early = omega (arith, b.ends, b.in_order, s.ends, s.in_order);
          at_least = early_height (mirrored_extreme extreme) (mirrored_stretch stretch)
              (lawful-mirrored_extreme extreme b)
              (lawful-mirrored_stretch stretch s) level (omega (arith, b.ends, b.in_order, s.ends, s.in_order))
              (subst (λ (d : ℕ). level + widening ppb d ≤ extreme.end) (sym same) enough);
        }))
        (λ early. inl (grind (arith, early_height extreme stretch b s level early enough)))
        (cases_lt (stretch.begin + stretch.end) (extreme.from + extreme.to))

    early_is : (index level : ℕ) → IsEarlyAtLeast ppb extremes stretch index level →
        IsAtLeast ppb extremes stretch index level
    early_is index level is =
        let b = All-slice_get IsLawfulExtreme extremes index is.extreme all is.stands in
        grind (arith, early_reaches is.extreme stretch b s level is.early is.at_least)

    late_is : (index level : ℕ) →
        IsEarlyAtLeast ppb (map mirrored_extreme extremes) (mirrored_stretch stretch) index level →
        IsAtLeast ppb extremes stretch index level
    late_is index level is =
        let back = at_map mirrored_extreme extremes index is.extreme is.stands in
        let extreme : Extreme = back.0 in
        let b = All-slice_get IsLawfulExtreme extremes index extreme all back.1 in
        let reaches = early_reaches (mirrored_extreme extreme) (mirrored_stretch stretch)
        (lawful-mirrored_extreme extreme b) (lawful-mirrored_stretch stretch s) level (rw back.2 at is.early)
        (rw back.2 at is.at_least) in
        record {
          extreme = extreme;
          stands = back.1;
          at_least = rw (distance-mirrored extreme stretch b s) at reaches;
        }

    pub either_reaches : (index level : ℕ) →
        IsEarlyAtLeast ppb extremes stretch index level
        ⊎ IsEarlyAtLeast ppb (map mirrored_extreme extremes) (mirrored_stretch stretch) index level →
        IsAtLeast ppb extremes stretch index level
    either_reaches index level = ⊎_elim (early_is index level) (late_is index level)

    -- the first extreme reaches the lowest level
    pub some_reaches : 0 < length extremes → (index : ℕ) × IsAtLeast ppb extremes stretch index 0
    some_reaches some =
        let none : Extreme = record { number = 0; end = 0; from = 0; to = 0 } in
        let extreme : Extreme = get_or extremes 0 none in
        let stands = slice_get-get_or extremes 0 none some in
        let b = all 0 none some in
        let apart : ℕ = distance extreme stretch in
        let slower : ppb * apart ≤ (billion - ppb) * apart = mul-le-mul_right apart (omega arith) in
        let least = (widens ppb apart (omega arith)).least apart (omega arith) in (
          0,
          record {
            extreme = extreme;
            stands = stands;
            at_least = omega (arith, b.least_end, b.begins, b.in_order, b.ends, s.begins, s.in_order, s.ends);
          },
        )
