-- Finding a name among sums.
use Rattle.sum_file.proofs.Common.{arith, ◌≡◌, ℕ, Bool, List, [], ◌∷◌, map, Option, option_map, refl, Bor, find, bytes_eq, Sum, data_of, digest_named}

find-map : {A B : Type 0} (shown : A → B) (test : B → Bool) (xs : List A)
    → find test (map shown xs) ≡ option_map shown (find (λ x. test (shown x)) xs)
find-map shown test [] = refl
find-map shown test (x ∷ xs) = grind (arith, map, find-map shown test xs)

-- the digest of the sum that is found
pub digest_found : (sums : List Sum) (name : List ℕ) (found : Option (Bor Sum))
    → option_map (λ sum. sum.now) found ≡ find (λ sum. bytes_eq sum.name.items name) sums
    → option_map (λ sum. sum.digest) (option_map data_of (option_map (λ sum. sum.now) found))
    ≡ digest_named name (map data_of sums)
digest_found sums name found is = grind (arith, find-map)
