-- Each end of the least hull that holds several is an end of one of them.
use Rattle.std.proofs.Common.{◌≡◌, ℕ, suc, ℤ, List, [], ◌∷◌, Some, ◌⊎◌, inl, inr, ⊎_elim, fold, refl, arith, sym}
use Rattle.std.proofs.lemmas.Int.{by_lt_z, clamps, ints}
use Rattle.std.specs.Int.{int_max, int_min}
use Rattle.std.specs.Prelude.{slice_get}
use Rattle.cover_finder.specs.Common.{Bounded, Empty, Hull, Unbounded}
use Rattle.cover_finder.specs.Hull.{join_of}

-- a bounded hull with this low end
abbrev pub HasLow : ℤ → Hull → Type 0
HasLow lo hull = (hi : ℤ) × (hull ≡ Bounded lo hi)

-- with this high end
abbrev pub HasHigh : ℤ → Hull → Type 0
HasHigh hi hull = (lo : ℤ) × (hull ≡ Bounded lo hi)

least_of_two : (a b : ℤ) → (a ≡ int_min a b) ⊎ (b ≡ int_min a b)
least_of_two a b = by_lt_z a b
    (λ less. inl (omega (arith, ints, clamps)))
    (λ no_less. inr (omega (arith, ints, clamps)))

greatest_of_two : (a b : ℤ) → (a ≡ int_max a b) ⊎ (b ≡ int_max a b)
greatest_of_two a b = by_lt_z a b
    (λ less. inr (omega (arith, ints, clamps)))
    (λ no_less. inl (omega (arith, ints, clamps)))

pub low_of_two : (lo : ℤ) (a b : Hull) → HasLow lo (join_of a b) → HasLow lo a ⊎ HasLow lo b
low_of_two lo Unbounded b (hi, is) = absurd cc
low_of_two lo Empty b (hi, is) = inr (hi, is)
low_of_two lo (Bounded l h) Unbounded (hi, is) = absurd cc
low_of_two lo (Bounded l h) Empty (hi, is) = inl (hi, is)
low_of_two lo (Bounded l h) (Bounded l' h') (hi, is) = ⊎_elim
    (λ (e : l ≡ int_min l l'). inl (h, cc))
    (λ (e : l' ≡ int_min l l'). inr (h', cc))
    (least_of_two l l')

pub high_of_two : (hi : ℤ) (a b : Hull) → HasHigh hi (join_of a b) → HasHigh hi a ⊎ HasHigh hi b
high_of_two hi Unbounded b (lo, is) = absurd cc
high_of_two hi Empty b (lo, is) = inr (lo, is)
high_of_two hi (Bounded l h) Unbounded (lo, is) = absurd cc
high_of_two hi (Bounded l h) Empty (lo, is) = inl (lo, is)
high_of_two hi (Bounded l h) (Bounded l' h') (lo, is) = ⊎_elim
    (λ (e : h ≡ int_max h h'). inl (l, cc))
    (λ (e : h' ≡ int_max h h'). inr (l', cc))
    (greatest_of_two h h')

-- a hull of a list that has a property
pub record HasOne (P : Hull → Type 0) (hulls : List Hull) : Type 0 where
  pub number : ℕ
  pub one : Hull
  pub stands : slice_get hulls number ≡ Some one
  pub has : P one

module _ (P : Hull → Type 0) (of_two : (a b : Hull) → P (join_of a b) → P a ⊎ P b) where
  has_later : (first : Hull) (hulls : List Hull) → HasOne P hulls → HasOne P (first ∷ hulls)
  has_later first hulls h = record { number = suc h.number; one = h.one; stands = h.stands; has = h.has }

  pub of_joined : (before : Hull) (hulls : List Hull) → P (fold join_of before hulls) → P before ⊎ HasOne P hulls
  of_joined before [] h = inl h
  of_joined before (first ∷ hulls) h = ⊎_elim
      (λ both. ⊎_elim
      (λ (had : P before). inl had)
      (λ (has : P first). inr (record { number = 0; one = first; stands = refl; has = has }))
      (of_two before first both))
      (λ later. inr (has_later first hulls later))
      (of_joined (join_of before first) hulls h)

  pub of_all_joined : (hulls : List Hull) → (P Empty → ⊥) → P (fold join_of Empty hulls) → HasOne P hulls
  of_all_joined hulls none h = ⊎_elim (λ empty. absurd (none empty)) (λ one. one) (of_joined Empty hulls h)

pub low_from_one : (lo hi : ℤ) (hulls : List Hull) → Bounded lo hi ≡ fold join_of Empty hulls
    → HasOne (HasLow lo) hulls
low_from_one lo hi hulls is = of_all_joined (HasLow lo) (low_of_two lo) hulls (λ (h, e). cc) (hi, sym is)

pub high_from_one : (lo hi : ℤ) (hulls : List Hull) → Bounded lo hi ≡ fold join_of Empty hulls
    → HasOne (HasHigh hi) hulls
high_from_one lo hi hulls is = of_all_joined (HasHigh hi) (high_of_two hi) hulls (λ (l, e). cc) (lo, sym is)
