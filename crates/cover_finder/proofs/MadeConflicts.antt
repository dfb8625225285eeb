-- The conflicts that a certificate names: all of them, which are few.
use Rattle.std.proofs.Common.{◌≡◌, ℕ, zero, suc, ◌+◌, ◌-◌, ◌^◌, ◌<◌, ◌≤◌, Bool, true, false, ◌||◌, List, [], ◌∷◌, length, map, get_or, All, refl, sym, subst, arith, inl, inr, ◌⊎◌, ⊎_elim}
use Rattle.std.specs.Prelude.{◌==◌, AllPairs}
use Rattle.std.proofs.lemmas.Bool.Decides.{nat_tests}
use Rattle.std.proofs.lemmas.List.{length-map}
use Rattle.std.proofs.lemmas.List.Elements.{All-map}
use Rattle.std.proofs.lemmas.Option.{slice_get_within}
use Rattle.claim_file.specs.Claim.{IsLawful}
use Rattle.pairing.specs.Exchange.{IsLawful as IsLawfulExchange}
use Rattle.lemma_base.proofs.Bool.{by_test}
use Rattle.lemma_base.proofs.List.{All-map_back}
use Rattle.feasibility.specs.Contradiction.{AreListed, HoldsAnEnd, IsContradiction, IsFirstContradiction}
use Rattle.feasibility.specs.Cover.{IsCover}
use Rattle.feasibility.proofs.ConflictList.{ends_cover, listed_in_range}
use Rattle.cover_checker.specs.Conflict.{HoldsEnd, IsConflict}
use Rattle.cover_finder.specs.Common.{AreAllConflicts, ClaimData, Conflict, Exchange, ShownConflict, conflict_data, group_of}
use Rattle.cover_finder.specs.Made.{NameAllConflicts, pair_of}

-- ---- how many there are

-- the sum of the numbers up to this one
triangle : ℕ → ℕ
triangle zero = 0
triangle (suc n) = suc n + triangle n

triangle_step : (n : ℕ) → triangle (suc n) ≡ suc n + triangle n
unfolding triangle
triangle_step n = refl

triangle_of_31 : triangle 31 ≡ 496
unfolding triangle
triangle_of_31 = refl

triangle_grows : (m n : ℕ) → m ≤ n → triangle m ≤ triangle n
triangle_grows m zero le = let is : m ≡ 0 = omega arith in rw is (omega arith)
triangle_grows m (suc n) le = by_test (m == suc n)
    (λ same. let is : m ≡ suc n = grind (arith, nat_tests) in rw is (omega arith))
    (λ other.
    let less : m ≤ n = grind (arith, nat_tests) in
    omega (arith, triangle_grows m n less, triangle_step n))

-- how many pairs of groups come from this one on, the lesser number first
room : ℕ → ℕ → ℕ
room a b = (32 - b) + triangle (31 - a)

-- this pair comes before that one
abbrev IsBeforePair : ℕ → ℕ → ℕ → ℕ → Type 0
IsBeforePair a b c d = (a < c) ⊎ ((a ≡ c) × (b < d))

room_falls : (a b c d : ℕ) → b < 32 → c ≤ d → d < 32 → IsBeforePair a b c d → room c d < room a b
unfolding room
room_falls a b c d low up low' (inl less) =
    let is : suc (31 - c) ≡ 32 - c = omega arith in
    let grows = triangle_grows (suc (31 - c)) (31 - a) (omega arith) in
    omega (arith, grows, triangle_step (31 - c))
room_falls a b c d low up low' (inr (same, less)) = rw same (omega arith)

room_most : (a b : ℕ) → room a b ≤ 528
unfolding room
room_most a b =
    let grows = triangle_grows (31 - a) 31 (omega arith) in
    omega (arith, grows, triangle_of_31)

room_some : (a b : ℕ) → b < 32 → 0 < room a b
unfolding room
room_some a b low = omega arith

-- a list along which a number falls isn't longer than that number at first
module _ {X : Type 0} (f : X → ℕ) (m : ℕ) (xs : List X) (falls : AllPairs (λ a b. f b < f a) xs)
    (most : All (λ x. f x ≤ m) xs) (some : All (λ x. 0 < f x) xs) where
  fallen : (k : ℕ) (d : X) → k < length xs → f (get_or xs k d) + k ≤ m
  fallen zero d below = omega (arith, most 0 d below)
  fallen (suc k) d below =
      omega (arith, falls k (suc k) d (omega arith) below, fallen k d (omega arith))

  last_some : (k : ℕ) (d : X) → length xs ≡ suc k → length xs ≤ m
  last_some k d is = omega (arith, fallen k d (omega arith), some k d (omega arith))

pub falling_few : {X : Type 0} (f : X → ℕ) (m : ℕ) (xs : List X) → AllPairs (λ a b. f b < f a) xs
    → All (λ x. f x ≤ m) xs → All (λ x. 0 < f x) xs → length xs ≤ m
falling_few f m [] falls most some = omega arith
falling_few f m (x ∷ xs) falls most some = last_some f m (x ∷ xs) falls most some (length xs) x refl

module _ (claim : ClaimData) (xs : List Exchange) (lawful : IsLawful claim)
    (each : All (IsLawfulExchange (length claim.servers)) xs) where
  -- the groups of a conflict have bits, and come in order
  abbrev HasBits : ShownConflict → Type 0
  HasBits c = (c.a ≤ c.b) × (c.b < 32)

  has_bits : (c : ShownConflict) → AreListed claim xs c.a c.b → HasBits c
  has_bits c among =
      let range = listed_in_range claim xs lawful each c.a c.b among in
      let up : c.a ≤ c.b = ⊎_elim (λ one. omega (arith, one.0)) (λ two. omega (arith, two.0)) among in
      (up, omega (arith, range.1, lawful.group_for_each, lawful.few_servers))

  module _ (listed : List ShownConflict) (all : AreAllConflicts claim xs listed) where
    bits : All HasBits listed
    bits k d below = has_bits (get_or listed k d) (all.each k d below)

    few_listed : length listed ≤ 528
    few_listed = falling_few (λ (c : ShownConflict). room c.a c.b) 528 listed
        (λ i j d before below.
        let one = get_or listed i d in
        let two = get_or listed j d in
        let first = bits i d (omega arith) in
        let second = bits j d below in
        room_falls one.a one.b two.a two.b first.1 second.0 second.1 (all.order i j d before below))
        (λ k d below. room_most (get_or listed k d).a (get_or listed k d).b)
        (λ k d below. room_some (get_or listed k d).a (get_or listed k d).b (bits k d below).1)

  pub few_pairs : (pairs : List (ℕ × ℕ)) → NameAllConflicts claim xs pairs → length pairs ≤ 528
  few_pairs pairs named =
      let few = few_listed named.conflicts named.all in
      rw (named.are, length-map named.conflicts pair_of) few

-- ---- each is a conflict, and a set with an end of each is a cover

either_way : (a b : Bool) → (a || b) ≡ true → (b || a) ≡ true
either_way true true is = refl
either_way true false is = refl
either_way false true is = refl
either_way false false is = absurd cc

module _ (claim : ClaimData) (xs : List Exchange) where
  is_conflict : (c : ShownConflict) → IsContradiction claim xs c.a c.b c.pair → IsConflict claim xs (pair_of c)
  is_conflict c shows = record {
    low = shows.low;
    high = shows.high;
    low_stands = shows.low_stands;
    high_stands = shows.high_stands;
    impossible = shows.impossible;
  }

  an_end : (is_in : ℕ → Bool) (c : ShownConflict) → IsContradiction claim xs c.a c.b c.pair
      → HoldsEnd claim xs is_in (pair_of c) → (is_in c.a || is_in c.b) ≡ true
  an_end is_in c shows ends =
      let held = ends shows.low shows.high shows.low_stands shows.high_stands in
      ⊎_elim
      (λ same. subst (λ (g : ℕ). (is_in c.a || is_in g) ≡ true) same.1
      (subst (λ (g : ℕ). (is_in g || is_in (group_of claim shows.high)) ≡ true) same.0 held))
      (λ turned. either_way (is_in c.b) (is_in c.a)
      (subst (λ (g : ℕ). (is_in c.b || is_in g) ≡ true) turned.1
      (subst (λ (g : ℕ). (is_in g || is_in (group_of claim shows.high)) ≡ true) turned.0 held)))
      shows.of_groups

  module _ (pairs : List (ℕ × ℕ)) (named : NameAllConflicts claim xs pairs) where
    pub are_conflicts : All (IsConflict claim xs) pairs
    are_conflicts =
        subst (All (IsConflict claim xs)) (sym named.are)
        (All-map (IsConflict claim xs) pair_of named.conflicts
        (λ k d below. is_conflict (get_or named.conflicts k d) (named.all.first k d below).is))

    pub ends_are_cover : (is_in : ℕ → Bool) → All (HoldsEnd claim xs is_in) pairs → IsCover claim xs is_in
    ends_are_cover is_in ends =
        let each = All-map_back (HoldsEnd claim xs is_in) pair_of named.conflicts
        (subst (All (HoldsEnd claim xs is_in)) named.are ends) in
        let held : HoldsAnEnd is_in named.conflicts =
        (λ k d below. an_end is_in (get_or named.conflicts k d) (named.all.first k d below).is (each k d below)) in
        ends_cover claim xs named.conflicts named.all is_in held

-- ---- the conflicts that the program lists

-- the numbers of the exchanges that show one have 32 bits
pub numbers_fit : (claim : ClaimData) (xs : List Exchange) (found : List Conflict)
    → AreAllConflicts claim xs (map conflict_data found) → (listed : List Conflict) → listed ≡ found
    → length xs ≤ 1000000 → (k : ℕ) (d : Conflict) → k < length listed
    → ((get_or listed k d).pair.low < 2 ^ 32) × ((get_or listed k d).pair.high < 2 ^ 32)
numbers_fit claim xs found all listed same few k d below =
    let each = subst (λ (l : List Conflict). AreAllConflicts claim xs (map conflict_data l)) (sym same) all in
    let shown = All-map_back (λ (c : ShownConflict). IsFirstContradiction claim xs c.a c.b c.pair) conflict_data
    listed each.first k d below in
    let pair = (get_or listed k d).pair in (
      omega (arith, few, slice_get_within xs pair.low shown.is.low shown.is.low_stands),
      omega (arith, few, slice_get_within xs pair.high shown.is.high shown.is.high_stands),
    )
