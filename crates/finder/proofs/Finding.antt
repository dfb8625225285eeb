-- What is found, piece by piece.
use Rattle.finder.proofs.Common.{◌≡◌, ℕ, ◌+◌, ◌<◌, ℤ, true, false, not, List, [], ◌∷◌, ◌++◌, sym, ap, ◌∙◌, unsigned_abs, arith, map-range_with_len_more, PieceData, ClaimData, Hull, Sample, piece_end_of, piece_hull, Stretch, is_inside, best_entries, best_hull, parts_named, certificate, nothing, piece_at, pieces_from, hull_at, passes, first_failing, found_without, count_of, stretch_at, ints, nat_tests}
use Rattle.finder.proofs.List.{find_none, find_first}
use Rattle.std.proofs.Common.{below_more}

module _ (samples : List Sample) (claim : ClaimData) (step : ℕ) where
  pub hull_is : (k : ℕ) (stretch : Stretch) (entries : List (ℕ × ℕ)) (hull : Hull) → stretch ≡ stretch_at claim step k
      → entries ≡ best_entries samples claim (stretch_at claim step k)
      → hull ≡ piece_hull claim.groups claim.false_max (parts_named samples claim stretch entries)
      → hull ≡ hull_at samples claim step k
  unfolding best_hull
  hull_is k stretch entries hull a b e = rw (a, b) at e

  pub found_failing : (k : ℕ) (hull : Hull) → k < count_of claim step → hull ≡ hull_at samples claim step k
      → is_inside claim.bound hull ≡ false → ((j : ℕ) → j < k → passes samples claim step j ≡ true)
      → nothing k hull ≡ found_without samples claim step (first_failing samples claim step)
  found_failing k hull within is outside others =
      grind (
        arith,
        ints,
        nat_tests,
        find_first (λ j. not (passes samples claim step j)) 0 (count_of claim step) k
            (omega arith) (omega (arith, within)) (λ j from to. ap not (others j to))
            (ap not (ap (is_inside claim.bound) (sym is) ∙ outside)),
      )

  pub found_all : (pieces : List PieceData) → pieces ≡ pieces_from samples claim step 0 (count_of claim step)
      → ((k : ℕ) → k < count_of claim step → passes samples claim step k ≡ true)
      → certificate (record { pieces = pieces }) ≡ found_without samples claim step (first_failing samples claim step)
  found_all pieces is all =
      grind (
        arith,
        ints,
        nat_tests,
        find_none (λ j. not (passes samples claim step j)) 0 (count_of claim step)
            (λ k from to. ap not (all k (omega (arith, to)))),
      )

  -- one more piece
  pub pieces_more : (k : ℕ) (old : List PieceData) (entries : List (ℕ × ℕ)) (end : ℤ)
      → old ≡ pieces_from samples claim step 0 k → entries ≡ best_entries samples claim (stretch_at claim step k)
      → end ≡ piece_end_of claim.first claim.last step k
      → old ++ record { entries = entries; upto = unsigned_abs end } ∷ []
      ≡ pieces_from samples claim step 0 (k + 1)
  pieces_more k old entries end so_far a b =
      rw (so_far, a, b) (sym (map-range_with_len_more (piece_at samples claim step) 0 k k (omega arith)))

  pub passed_more : (k : ℕ) → ((j : ℕ) → j < k → passes samples claim step j ≡ true)
      → passes samples claim step k ≡ true → (j : ℕ) → j < k + 1 → passes samples claim step j ≡ true
  passed_more k before here = below_more (λ (j : ℕ). passes samples claim step j ≡ true) k before here
