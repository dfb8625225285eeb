-- The longest pieces end in one of three ways, and in no two of them.
use Rattle.finder.proofs.Common.{◌≡◌, ◌⊎◌, inl, inr, ⊎_elim, ℕ, zero, suc, ◌<◌, ◌≤◌, ℤ, pos, ◌-ℤ◌, ◌<ℤ◌, unsigned_abs, Bool, true, false, true≢false, List, [], ◌∷◌, ◌++◌, length, refl, sym, ap, ◌∙◌, subst, arith, ints, clamps, CertificateData, max_pieces, ClaimData, Hull, Sample, GetStuck, IsCarried, AreLongest, IsLongest, IsOfLongest, IsStuck, IsTooLong, end_after, hull_over, next_tick, pieces_over, shows, by_test, ≤ℤ_antisymm, nat_tests, Option, None, Some, find, range_with_len, ◌+◌}
use Rattle.finder.proofs.List.{find_is_first, find_is_none}
use Rattle.finder.proofs.Nearest.{int_cases}

module _ (samples : List Sample) (claim : ClaimData) where
  -- whether a piece from p is shown that ends so many ticks before the span
  abbrev shows_to : ℤ → ℕ → Bool
  shows_to p k = shows samples claim p (claim.last -ℤ pos k)

  -- if the tick from a reading is shown, a longest piece begins there
  longest_from : (p : ℤ) → shows samples claim p (next_tick samples claim p) ≡ true
      → (q : ℤ) × IsLongest samples claim p q
  longest_from p shown = first _ refl
    where
      first : (o : Option ℕ)
          → find (shows_to p) (range_with_len 0 (unsigned_abs (claim.last -ℤ next_tick samples claim p) + 1)) ≡ o
          → (q : ℤ) × IsLongest samples claim p q
      first None is =
          let back = unsigned_abs (claim.last -ℤ next_tick samples claim p) in
          let there : next_tick samples claim p ≡ claim.last -ℤ pos back = omega (arith, ints, clamps) in
          absurd (true≢false (sym shown ∙ ap (shows samples claim p) there
          ∙ find_is_none (shows_to p) 0 _ is back (omega arith) (omega arith)))
      first (Some k) is =
          let found = find_is_first (shows_to p) 0 _ k is in (
            claim.last -ℤ pos k,
            record {
              some_tick = omega (arith, ints, clamps, found.to);
              in_span = omega (arith, ints);
              tick_shown = shown;
              shown = found.passes;
              no_longer = λ r beyond to.
                  let back = unsigned_abs (claim.last -ℤ r) in
                  let there : r ≡ claim.last -ℤ pos back = omega (arith, ints) in
                  ap (shows samples claim p) there ∙ found.others_fail back (omega arith) (omega (arith, ints));
            },
          )

  -- ---- one of the three

  -- the tick at which the pieces from p on have come to isn't shown
  abbrev Fails : ℤ → List ℤ → Type 0
  Fails p ends = shows samples claim (end_after p ends) (next_tick samples claim (end_after p ends)) ≡ false

  -- fewer than n pieces from p on reach the span's end or get stuck, or n don't reach it
  abbrev EndsWithin : ℤ → ℕ → Type 0
  EndsWithin p n =
      ((ends : List ℤ) × AreLongest samples claim p ends × IsLongest samples claim (end_after p ends) claim.last
      × (length ends < n))
      ⊎ (((ends : List ℤ) × AreLongest samples claim p ends × Fails p ends × (length ends < n))
      ⊎ ((ends : List ℤ) × AreLongest samples claim p ends × (length ends ≡ n)))

  one_more : (p q : ℤ) (n : ℕ) → IsLongest samples claim p q → q <ℤ claim.last → EndsWithin q n
      → EndsWithin p (suc n)
  one_more p q n long before (inl (ends, are, last, few)) =
      inl (q ∷ ends, (long, before, are), last, omega (arith, few))
  one_more p q n long before (inr (inl (ends, are, fails, few))) =
      inr (inl (q ∷ ends, (long, before, are), fails, omega (arith, few)))
  one_more p q n long before (inr (inr (ends, are, as_many))) =
      inr (inr (q ∷ ends, (long, before, are), omega (arith, as_many)))

  ends_within : (n : ℕ) (p : ℤ) → EndsWithin p n
  ends_within zero p = inr (inr ([], tt, refl))
  ends_within (suc n) p = by_test (shows samples claim p (next_tick samples claim p))
      (λ shown.
      let long = longest_from p shown in
      ⊎_elim
      (λ before. one_more p long.0 n long.1 before (ends_within n long.0))
      (λ reaches. inl (
        [],
        tt,
        subst (IsLongest samples claim p) (≤ℤ_antisymm long.0 claim.last long.1.in_span reaches)
            long.1,
        omega arith,
      ))
      (int_cases long.0 claim.last))
      (λ fails. inr (inl ([], tt, fails, omega arith)))

  one_for : EndsWithin claim.first max_pieces
      → IsCarried samples claim ⊎ (GetStuck samples claim ⊎ IsTooLong samples claim)
  one_for (inl (ends, are, last, few)) = inl (
    record { pieces = pieces_over samples claim claim.first (ends ++ claim.last ∷ []) },
    record { earlier = ends; longest = are; last = last; few = few; pieces = refl },
  )
  one_for (inr (inl (ends, are, fails, few))) =
      let begin = end_after claim.first ends in
      let end = next_tick samples claim begin in
      inr (inl (
        begin,
        end,
        hull_over samples claim begin end,
        record {
          earlier = ends;
          longest = are;
          few = few;
          begins = refl;
          ends = refl;
          its_hull = refl;
          fails = fails;
        },
      ))
  one_for (inr (inr (ends, are, as_many))) =
      inr (inr (record { earlier = ends; longest = are; as_many = as_many }))

  pub one_of_three : IsCarried samples claim ⊎ (GetStuck samples claim ⊎ IsTooLong samples claim)
  one_of_three = one_for (ends_within max_pieces claim.first)

  -- ---- no two of them

  same_end : (p q r : ℤ) → IsLongest samples claim p q → IsLongest samples claim p r → q ≡ r
  same_end p q r a b = ⊎_elim
      (λ less. absurd (true≢false (sym b.shown ∙ a.no_longer r less b.in_span)))
      (λ le. ⊎_elim
      (λ less. absurd (true≢false (sym a.shown ∙ b.no_longer q less a.in_span)))
      (λ ge. ≤ℤ_antisymm q r ge le)
      (int_cases r q))
      (int_cases q r)

  -- no longest piece from here ends before the span
  abbrev Halts : ℤ → Type 0
  Halts p = (r : ℤ) → IsLongest samples claim p r → r <ℤ claim.last → ⊥

  halts_at_end : (p : ℤ) → IsLongest samples claim p claim.last → Halts p
  halts_at_end p last r long before = omega (arith, ints, same_end p claim.last r last long, before)

  halts_stuck : (p : ℤ) → shows samples claim p (next_tick samples claim p) ≡ false → Halts p
  halts_stuck p fails r long before = true≢false (sym long.tick_shown ∙ fails)

  moved : (q r : ℤ) (ends : List ℤ) → q ≡ r → AreLongest samples claim r ends → AreLongest samples claim q ends
  moved q r ends same are = subst (λ (z : ℤ). AreLongest samples claim z ends) (sym same) are

  -- where the pieces of one list halt, another list has no more
  no_more : (p : ℤ) (xs ys : List ℤ) → AreLongest samples claim p xs → Halts (end_after p xs)
      → AreLongest samples claim p ys → length ys ≤ length xs
  no_more p xs [] a halts b = omega arith
  no_more p [] (r ∷ ys) a halts b = absurd (halts r b.0 b.1)
  no_more p (q ∷ xs) (r ∷ ys) a halts b =
      omega (arith, no_more q xs ys a.2 halts (moved q r ys (same_end p q r a.0 b.0) b.2))

  same_list : (p : ℤ) (xs ys : List ℤ) → AreLongest samples claim p xs → AreLongest samples claim p ys
      → length xs ≡ length ys → xs ≡ ys
  same_list p [] [] a b count = refl
  same_list p [] (r ∷ ys) a b count = absurd (omega (arith, count))
  same_list p (q ∷ xs) [] a b count = absurd (omega (arith, count))
  same_list p (q ∷ xs) (r ∷ ys) a b count =
      let same = same_end p q r a.0 b.0 in
      let rest = same_list q xs ys a.2 (moved q r ys same b.2) (omega (arith, count)) in
      ap (λ (z : ℤ). z ∷ xs) same ∙ ap (λ (zs : List ℤ). r ∷ zs) rest

  -- if both halt they are one
  halt_once : (p : ℤ) (xs ys : List ℤ) → AreLongest samples claim p xs → Halts (end_after p xs)
      → AreLongest samples claim p ys → Halts (end_after p ys) → xs ≡ ys
  halt_once p xs ys a x b y =
      same_list p xs ys a b (omega (arith, no_more p xs ys a x b, no_more p ys xs b y a))

  -- what is stuck fails at its tick
  fails_at : {begin end : ℤ} {hull : Hull} (stuck : IsStuck samples claim begin end hull)
      → Fails claim.first stuck.earlier
  fails_at stuck = rw (stuck.its_hull, stuck.ends, stuck.begins) at stuck.fails

  carried_halts : {certificate : CertificateData} (is : IsOfLongest samples claim certificate)
      → Halts (end_after claim.first is.earlier)
  carried_halts is = halts_at_end (end_after claim.first is.earlier) is.last

  stuck_halts : {begin end : ℤ} {hull : Hull} (stuck : IsStuck samples claim begin end hull)
      → Halts (end_after claim.first stuck.earlier)
  stuck_halts stuck = halts_stuck (end_after claim.first stuck.earlier) (fails_at stuck)

  pub never_carried_and_stuck : IsCarried samples claim → ¬ (GetStuck samples claim)
  never_carried_and_stuck (certificate, is) (begin, end, hull, stuck) =
      grind (
        arith,
        ints,
        nat_tests,
        halt_once claim.first is.earlier stuck.earlier is.longest (carried_halts is)
            stuck.longest (stuck_halts stuck),
      )

  pub never_carried_and_too_long : IsCarried samples claim → ¬ (IsTooLong samples claim)
  never_carried_and_too_long (certificate, is) long =
      omega (arith, no_more claim.first is.earlier long.earlier is.longest (carried_halts is) long.longest)

  pub never_stuck_and_too_long : GetStuck samples claim → ¬ (IsTooLong samples claim)
  never_stuck_and_too_long (begin, end, hull, stuck) long =
      omega (arith, no_more claim.first stuck.earlier long.earlier stuck.longest (stuck_halts stuck) long.longest)

  -- ---- and each in only one way

  pub one_certificate : (a b : CertificateData) → IsOfLongest samples claim a → IsOfLongest samples claim b → a ≡ b
  one_certificate a b x y =
      grind (
        arith,
        ints,
        nat_tests,
        halt_once claim.first x.earlier y.earlier x.longest (carried_halts x) y.longest
            (carried_halts y),
      )

  pub one_tick : (p q p' q' : ℤ) (h h' : Hull) → IsStuck samples claim p q h → IsStuck samples claim p' q' h'
      → p ≡ p'
  one_tick p q p' q' h h' x y =
      x.begins ∙ ap (end_after claim.first)
      (halt_once claim.first x.earlier y.earlier x.longest (stuck_halts x) y.longest (stuck_halts y)) ∙ sym y.begins
