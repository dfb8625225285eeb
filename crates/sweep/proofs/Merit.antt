-- The highest extreme is that of the best sample.
use Rattle.sweep.proofs.Common.{◌≡◌, ℕ, ◌+◌, ◌-◌, ◌<◌, ◌≤◌, ◌^◌, ℤ, pos, ◌+ℤ◌, ◌-ℤ◌, ◌≤ℤ◌, ◌<ℤ◌, unsigned_abs, List, Some, sym, ◌∙◌, ap, arith, slice_get, ints, clamps, same_Some, widening, Sample, IsFirstBest, merit, farthest, moved_low, moved_high, IsFromOrigin, IsExtremeOf, IsLawfulExtreme, IsOfServer, AreExtremesOf, IsStretchOf, IsLawfulStretch, IsTopNumber, distance, Extreme, Side, Low, High, UnsignedStretch}

distance_is : (start stop p q : ℤ) (extreme : Extreme) (stretch : UnsignedStretch) → IsFromOrigin start extreme.from →
    IsFromOrigin stop extreme.to → IsStretchOf p q stretch → extreme.from ≤ extreme.to → stretch.begin ≤ stretch.end →
    unsigned_abs (farthest start stop p q) ≡ distance extreme stretch
distance_is start stop p q extreme stretch a b is up on = omega (arith, ints, clamps, is.begin, is.end)

-- a sample's merit, counted from the origin, is its extreme's end moved down
pub merit_is : (side : Side) (p q : ℤ) (ppb : ℕ) (sample : Sample) (extreme : Extreme) (stretch : UnsignedStretch) →
    IsExtremeOf side sample extreme → IsLawfulExtreme extreme → IsStretchOf p q stretch → IsLawfulStretch stretch →
    merit side sample p q ppb +ℤ pos (2 ^ 75) ≡ pos extreme.end -ℤ pos (widening ppb (distance extreme stretch))
unfolding moved_low moved_high
merit_is Low p q ppb sample extreme stretch is b at s =
    omega (
      arith,
      ints,
      is.end,
      ap (λ (d : ℕ). widening ppb d)
          (distance_is sample.low_from sample.low_to p q extreme stretch is.from is.to at b.in_order s.in_order),
    )
merit_is High p q ppb sample extreme stretch is b at s =
    omega (
      arith,
      ints,
      is.end,
      ap (λ (d : ℕ). widening ppb d)
          (distance_is sample.high_from sample.high_to p q extreme stretch is.from is.to at b.in_order s.in_order),
    )

-- ---- in plain numbers: x and y are merits, counted as `end` less `wide`
no_more : (x y : ℤ) (end wide best_end best_wide level : ℕ) → x +ℤ pos (2 ^ 75) ≡ pos end -ℤ pos wide →
    y +ℤ pos (2 ^ 75) ≡ pos best_end -ℤ pos best_wide → level + best_wide ≤ best_end →
    (wide ≤ end → end - wide ≤ level) → x ≤ℤ y
no_more x y end wide best_end best_wide level a b reached most = grind (arith, ints)

less : (x y : ℤ) (end wide best_end best_wide level : ℕ) → x +ℤ pos (2 ^ 75) ≡ pos end -ℤ pos wide →
    y +ℤ pos (2 ^ 75) ≡ pos best_end -ℤ pos best_wide → level + best_wide ≤ best_end →
    (level + wide ≤ end → ⊥) → x <ℤ y
less x y end wide best_end best_wide level a b reached short = grind (arith, ints)

module _ (side : Side) (samples : List Sample) (server : ℕ) (extremes : List Extreme)
    (are : AreExtremesOf side samples server extremes) (p q : ℤ) (ppb : ℕ) (stretch : UnsignedStretch)
    (at : IsStretchOf p q stretch) (s : IsLawfulStretch stretch) where
  module _ (i : ℕ) (sample : Sample) (stands : slice_get samples i ≡ Some sample) (of : sample.server ≡ server) where
    -- the extreme of a sample, its index and how it is counted
    pub record Known : Type 0 where
      pub index : ℕ
      pub extreme : Extreme
      pub stands_at : slice_get extremes index ≡ Some extreme
      pub number_is : extreme.number ≡ i
      pub counted : merit side sample p q ppb +ℤ pos (2 ^ 75)
          ≡ pos extreme.end -ℤ pos (widening ppb (distance extreme stretch))

    pub known : Known
    known =
        let there = are.all i sample stands of in
        let own = are.each there.0 there.1 there.2 in
        let same : own.sample ≡ sample =
        same_Some own.sample sample (sym own.stands ∙ ap (slice_get samples) there.3 ∙ stands) in
        record {
          index = there.0;
          extreme = there.1;
          stands_at = there.2;
          number_is = there.3;
          counted = rw same at (merit_is side p q ppb own.sample there.1 stretch own.is own.lawful at s);
        }

  module _ (number : ℕ) (is : IsTopNumber ppb extremes stretch number) where
    best : IsOfServer side samples server is.extreme
    best = are.each is.top.index is.extreme is.stands

    best_counted : merit side best.sample p q ppb +ℤ pos (2 ^ 75)
        ≡ pos is.extreme.end -ℤ pos (widening ppb (distance is.extreme stretch))
    best_counted = merit_is side p q ppb best.sample is.extreme stretch best.is best.lawful at s

    best_reached : is.top.level + widening ppb (distance is.extreme stretch) ≤ is.extreme.end
    best_reached = grind arith

    pub IsFirstBest-top : IsFirstBest (λ s. merit side s p q ppb) samples server number
    IsFirstBest-top = record {
      sample = best.sample;
      stands = ap (slice_get samples) (sym is.number) ∙ best.stands;
      of_server = best.of_server;
      greatest = greatest;
      first = first;
    }
      where
        greatest : (i : ℕ) (t : Sample) → slice_get samples i ≡ Some t → t.server ≡ server →
            merit side t p q ppb ≤ℤ merit side best.sample p q ppb
        greatest i t at_i of =
            let k = known i t at_i of in
            no_more (merit side t p q ppb) (merit side best.sample p q ppb) k.extreme.end
            (widening ppb (distance k.extreme stretch)) is.extreme.end (widening ppb (distance is.extreme stretch))
            is.top.level
            k.counted best_counted best_reached
            (λ le.
            is.is_top.highest k.index (k.extreme.end - widening ppb (distance k.extreme stretch))
            (record { extreme = k.extreme; stands = k.stands_at; at_least = omega arith }))

        -- an extreme before the best is of a sample with a lower number
        not_before : (i index : ℕ) (b : Extreme) → slice_get extremes index ≡ Some b → b.number ≡ i → i < number →
            is.top.index ≤ index → ⊥
        not_before i index b stands number_is before behind =
            grind (arith, is.number, is.stands, are.rising is.top.index index is.extreme b)

        first : (i : ℕ) (t : Sample) → slice_get samples i ≡ Some t → t.server ≡ server → i < number →
            merit side t p q ppb <ℤ merit side best.sample p q ppb
        first i t at_i of before =
            let k = known i t at_i of in
            less (merit side t p q ppb) (merit side best.sample p q ppb) k.extreme.end
            (widening ppb (distance k.extreme stretch)) is.extreme.end (widening ppb (distance is.extreme stretch))
            is.top.level
            k.counted best_counted best_reached
            (λ enough. not_before i k.index k.extreme k.stands_at k.number_is before
            (is.is_top.first k.index (record { extreme = k.extreme; stands = k.stands_at; at_least = enough })))
