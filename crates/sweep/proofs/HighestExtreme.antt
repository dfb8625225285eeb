-- The number of the highest extreme, for each stretch so far.
use Rattle.sweep.proofs.Common.{◌≡◌, ℕ, ◌+◌, ◌-◌, ◌<◌, List, [], ◌∷◌, ◌++◌, length, Option, None, Some, refl, arith, subst, sym, map, get_or, slice_get, All, ◌∙◌, length-map, length-reverse, same_Some, slice_get-get_or, slice_get_read, IsRate, IsWidening, widening, billion, IsLawfulExtreme, mirrored_extreme, IsLawfulStretch, mirrored_stretch, IsTopOf, IsAtLeast, IsEarlyAtLeast, AreEarlyTops, AreLateTops, AreOver, higher_of, IsTopNumber, Extreme, UnsignedStretch, Top, All-slice_get}
use Rattle.sweep.proofs.List.{AreOver-more}
use Rattle.sweep.proofs.Mirror.{mirrored_at}
use Rattle.sweep.proofs.Reach.{reaches_either, either_reaches, some_reaches}
use Rattle.sweep.proofs.TopOrder.{Either, same_top, top-higher_of}

-- ---- what the code reads and chooses at number k
module _ (widens : (ppb distance : ℕ) → ppb < billion → IsWidening ppb distance (widening ppb distance)) (ppb : ℕ)
    (slow : IsRate ppb) (extremes : List Extreme) (lawful : All IsLawfulExtreme extremes)
    (stretches : List UnsignedStretch)
    (lawful_stretches : All IsLawfulStretch stretches) (early late : List (Option Top))
    (are_early : AreEarlyTops ppb extremes stretches early)
    (are_late : AreLateTops ppb extremes stretches late) (k : ℕ) (within : k < length stretches)
    (one other : Option Top)
    (one_at : one ≡ get_or early k one) (other_at : other ≡ get_or late (length stretches - 1 - k) other) where
  pub some_stretch : UnsignedStretch
  some_stretch = get_or stretches k (record { begin = 0; end = 0 })

  here : slice_get stretches k ≡ Some some_stretch
  unfolding some_stretch
  here = slice_get-get_or stretches k (record { begin = 0; end = 0 }) within

  lawful_one : IsLawfulStretch some_stretch
  lawful_one = All-slice_get IsLawfulStretch stretches k some_stretch lawful_stretches here

  -- the higher of the early top and the late one is the top
  pub top_at : IsTopOf (IsAtLeast ppb extremes some_stretch) (higher_of one other)
  top_at =
      same_top
      (Either (IsEarlyAtLeast ppb extremes some_stretch)
      (IsEarlyAtLeast ppb (map mirrored_extreme extremes) (mirrored_stretch some_stretch)))
      (IsAtLeast ppb extremes some_stretch) (higher_of one other)
      (either_reaches widens ppb slow extremes some_stretch lawful lawful_one)
      (reaches_either widens ppb slow extremes some_stretch lawful lawful_one)
      (top-higher_of (IsEarlyAtLeast ppb extremes some_stretch)
      (IsEarlyAtLeast ppb (map mirrored_extreme extremes) (mirrored_stretch some_stretch)) one other
      (are_early.each k some_stretch one here
      (slice_get_read early (length stretches) k one (sym are_early.as_many) within one_at))
      (are_late.each (length stretches - 1 - k) (mirrored_stretch some_stretch) other
      (mirrored_at stretches k some_stretch here)
      (slice_get_read late (length stretches) (length stretches - 1 - k) other
      (sym (are_late.as_many ∙ length-reverse (map mirrored_stretch stretches) ∙ length-map stretches mirrored_stretch))
      (omega arith) other_at)))

  module _ (found : Option ℕ) (found_is : (top : Top) (extreme : Extreme) → higher_of one other ≡ Some top →
      slice_get extremes top.index ≡ Some extreme → found ≡ Some extreme.number) (some : 0 < length extremes) where
    of_top : (top : Option Top) → higher_of one other ≡ top → IsTopOf (IsAtLeast ppb extremes some_stretch) top →
        (number : ℕ) × (found ≡ Some number) × IsTopNumber ppb extremes some_stretch number
    of_top None is none =
        let reached = some_reaches widens ppb slow extremes some_stretch lawful lawful_one some in
        absurd (none reached.0 0 reached.1)
    of_top (Some top) is is_top =
        let extreme = is_top.reached.extreme in
        let stands = is_top.reached.stands in (
          extreme.number,
          found_is top extreme is stands,
          record { top = top; is_top = is_top; extreme = extreme; stands = stands; number = refl },
        )

    pub number_found : (number : ℕ) × (found ≡ Some number) × IsTopNumber ppb extremes some_stretch number
    number_found = of_top (higher_of one other) refl top_at

    pub number_more : (number : ℕ) → found ≡ Some number → (numbers : List ℕ) →
        AreOver (IsTopNumber ppb extremes) stretches k numbers →
        AreOver (IsTopNumber ppb extremes) stretches (k + 1) (numbers ++ number ∷ [])
    number_more number is numbers so_far =
        let own = number_found in
        AreOver-more (IsTopNumber ppb extremes) stretches k numbers so_far some_stretch here number
        (subst (IsTopNumber ppb extremes some_stretch) (same_Some own.0 number (sym own.1 ∙ is)) own.2)
