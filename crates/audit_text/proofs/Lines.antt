-- Lines that are written for each element of a list.
use Rattle.audit_text.proofs.Common.{◌≡◌, ◌+◌, ◌<◌, ◌≤◌, ◌++◌, ℕ, List, length, take, get_or, refl, append_assoc, append-nil, flat_map, flat_map-append, take_all, take_more}

module _ {X : Type 0} (line : X → List ℕ) (xs : List X) (i : ℕ) where
  lines_more : (d : X) → i < length xs →
      flat_map line (take (i + 1) xs) ≡ flat_map line (take i xs) ++ line (get_or xs i d)
  lines_more d within = rw (take_more xs i d within, flat_map-append, append-nil) refl

  -- the line of the element at a place was added
  pub listed_more : (d : X) → i < length xs → (start old new : List ℕ) → new ≡ old ++ line (get_or xs i d) →
      old ≡ start ++ flat_map line (take i xs) → new ≡ start ++ flat_map line (take (i + 1) xs)
  listed_more d within start old new added so_far = rw (added, so_far, lines_more d within, append_assoc) refl

  -- every line was added
  pub listed_all : length xs ≤ i → (start text : List ℕ) → text ≡ start ++ flat_map line (take i xs) →
      text ≡ start ++ flat_map line xs
  listed_all past start text so_far = rw (so_far, take_all i xs past) refl
