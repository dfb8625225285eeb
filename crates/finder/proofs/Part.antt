-- What the tables of servers say of a piece is what its best entries say.
use Rattle.finder.proofs.Common.{◌≡◌, ℕ, ◌<◌, ℤ, List, [], ◌∷◌, length, Option, Some, None, refl, sym, ap, ◌∙◌, All, filter_map, cons_option, ClaimData, servers_of, Sample, Stretch, piece_hull, Part, best_over, best_entries, best_hull, part_named, parts_named, stretch_over, AreSamplesOf, arith, ints, nat_tests}
use Rattle.sweep.specs.Table.{best_part, best_parts}
use Rattle.finder.proofs.Best.{best_of_is}
use Rattle.finder.proofs.EntryList.{listed_parts}

-- what g gives of what h gives, in one step
through : {X Y Z : Type 0} (h : X → Option Y) (g : Y → Option Z) (k : X → Option Z)
    → ((x : X) → h x ≡ None → k x ≡ None) → ((x : X) (y : Y) → h x ≡ Some y → g y ≡ k x)
    → (xs : List X) → filter_map g (filter_map h xs) ≡ filter_map k xs
through h g k none some [] = refl
through {X} {Y} {Z} h g k none some (x ∷ xs) = step (through h g k none some xs) (h x) refl
  where
    step : filter_map g (filter_map h xs) ≡ filter_map k xs → (o : Option Y) → h x ≡ o
        → filter_map g (cons_option o (filter_map h xs)) ≡ cons_option (k x) (filter_map k xs)
    step rest None e = rest ∙ ap (λ (z : Option Z). cons_option z (filter_map k xs)) (sym (none x e))
    step rest (Some y) e =
        ap (cons_option (g y)) rest ∙ ap (λ (z : Option Z). cons_option z (filter_map k xs)) (some x y e)

module _ (samples : List Sample) (claim : ClaimData) (p q : ℤ) where
  -- the entry of a server says what its table says
  pub part_said : (server : ℕ) (entry : ℕ × ℕ) → best_over samples claim (stretch_over p q) server ≡ Some entry
      → part_named samples claim (stretch_over p q) entry ≡ best_part samples p q claim.drift_ppb server
  part_said server entry e = grind (arith, ints, nat_tests, best_of_is samples server p q claim.drift_ppb entry e)

  pub parts_said : best_parts samples (length claim.servers) p q claim.drift_ppb
      ≡ parts_named samples claim (stretch_over p q) (best_entries samples claim (stretch_over p q))
  parts_said = sym (through (best_over samples claim (stretch_over p q)) (part_named samples claim (stretch_over p q))
      (best_part samples p q claim.drift_ppb) (λ server e. rw e refl) part_said (servers_of (length claim.servers)))

  -- their servers are listed
  pub listed_said : AreSamplesOf claim samples
      → All (λ part. part.server < length claim.servers) (best_parts samples (length claim.servers) p q claim.drift_ppb)
  listed_said are =
      rw parts_said (listed_parts samples claim (stretch_over p q) (best_entries samples claim (stretch_over p q))
      (length claim.servers) are.listed)

-- their hull is that of the best entries
pub hull_said : (samples : List Sample) (claim : ClaimData) (stretch : Stretch) (parts : List Part)
    → parts ≡ parts_named samples claim stretch (best_entries samples claim stretch)
    → piece_hull claim.groups claim.false_max parts ≡ best_hull samples claim stretch
unfolding best_hull
hull_said samples claim stretch parts is = ap (piece_hull claim.groups claim.false_max) is
