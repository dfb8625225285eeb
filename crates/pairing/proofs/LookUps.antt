-- A look-up among what is kept of requests is one among them.
use Rattle.std.proofs.lemmas.Int.{ints}
use Rattle.pairing.proofs.Common.{◌≡◌, List, [], ◌∷◌, Bool, true, false, refl, ap, map, if◌then◌else◌, Key, IndexedRequest, Indexes, found_in, having, indexed_of, indexed_with, place_at, place_of, same_key, Request, arith, nat_tests}

indexed_with-head : (same : Bool) (q : Request) (ks : List IndexedRequest) (qs : List Request) →
    ks ≡ map indexed_of qs →
    (if same then indexed_of q ∷ ks else ks) ≡ map indexed_of (if same then q ∷ qs else qs)
indexed_with-head true q ks qs is = ap (λ xs. indexed_of q ∷ xs) is
indexed_with-head false q ks qs is = is

indexed_with-map : (k : Key) (requests : List Request) →
    indexed_with k (map indexed_of requests) ≡ map indexed_of (having k requests)
indexed_with-map k [] = refl
indexed_with-map k (q ∷ requests) =
    grind (arith, ints, nat_tests, indexed_with-map k requests, indexed_with-head, same_key)

place_at-map : (requests : List Request) → place_at (map indexed_of requests) ≡ place_of requests
place_at-map [] = refl
place_at-map (q ∷ []) = refl
place_at-map (q ∷ other ∷ others) = refl

pub indexed_as_found : (requests : List Request) (kept : List IndexedRequest) → kept ≡ map indexed_of requests →
    Indexes (found_in kept) requests
indexed_as_found requests kept is k = grind (arith, ints, nat_tests, place_at, indexed_with-map, place_at-map)
