-- Rows of numbered things, one after another.
use Rattle.audit_text.proofs.Common.{◌≡◌, ◌∙◌, ◌+◌, ◌<◌, ◌≤◌, ◌++◌, ℕ, List, length, map, drop, get_or, refl, sym, ap, add-one, append_assoc, append-nil, drop_all, rows_from}
use Rattle.std.proofs.Math.Seq.{drop-cons}

module _ {X Y : Type 0} (row : ℕ → Y → List ℕ) (shown : X → Y) (xs : List X) (i : ℕ) where
  -- the row of the one at a place, and then those of the others
  rows_more : (d : X) → i < length xs → rows_from row i (map shown (drop i xs))
      ≡ row i (shown (get_or xs i d)) ++ rows_from row (i + 1) (map shown (drop (i + 1) xs))
  rows_more d within = ap (λ l. rows_from row i (map shown l)) (drop-cons xs i d within) ∙ rw add-one refl

  -- the row of the one at a place was added
  pub row_added : (d : X) → i < length xs → (old new start : List ℕ) → new ≡ old ++ row i (shown (get_or xs i d)) →
      old ++ rows_from row i (map shown (drop i xs)) ≡ start →
      new ++ rows_from row (i + 1) (map shown (drop (i + 1) xs)) ≡ start
  row_added d within old new start added so_far =
      rw (added, append_assoc) (ap (λ l. old ++ l) (sym (rows_more d within)) ∙ so_far)

  -- every row was added
  pub rows_done : length xs ≤ i → (text start : List ℕ) →
      text ++ rows_from row i (map shown (drop i xs)) ≡ start → text ≡ start
  rows_done past text start so_far = sym (append-nil text) ∙ rw (drop_all i xs past) at so_far
