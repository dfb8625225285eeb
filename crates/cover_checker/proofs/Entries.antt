-- What the entries of a piece say, each by itself.
use Rattle.cover_checker.proofs.Common.{◌≡◌, ◌<◌, ℕ, zero, suc, length, ap, All-slice_get, IsLawfulExchange, Bool, true, false, cond, not, List, [], ◌∷◌, ◌++◌, Option, None, Some, Result, Ok, Err, refl, subst, arith, nat_tests, All, All-nil, All-push, slice_get, ◌==◌, list_any, ClaimData, Exchange, Part, PieceWhy, Stretch, LeftOut, Of, group_of, part_from, part_of, parts_after, unless_refused}
use Rattle.cover_checker.specs.Hull.{IsSaid}
use Rattle.checker.specs.declared.verdict.Why.TheVariants.{MixedServers, RepeatedServer}

-- ---- lists

-- what stands in a list does with one more behind it
still_there : {X : Type 0} (xs : List X) (y : X) (i : ℕ) (x : X) → slice_get xs i ≡ Some x
    → slice_get (xs ++ y ∷ []) i ≡ Some x
still_there [] y i x at = absurd cc
still_there (z ∷ xs) y zero x at = at
still_there (z ∷ xs) y (suc i) x at = still_there xs y i x at

-- and so does that one
put_there : {X : Type 0} (xs : List X) (y : X) → slice_get (xs ++ y ∷ []) (length xs) ≡ Some y
put_there [] y = refl
put_there (z ∷ xs) y = put_there xs y

-- ---- entries

module _ (claim : ClaimData) (xs : List Exchange) (out : ℕ → Bool) (stretch : Stretch) where
  abbrev Says : ℕ × ℕ → Part → Type 0
  Says entry part = IsSaid claim xs out stretch entry part

  tested : (entry : ℕ × ℕ) (x y : Exchange) (mixed repeated left : Bool) (part : Part)
      → slice_get xs entry.0 ≡ Some x → slice_get xs entry.1 ≡ Some y
      → not (x.server == y.server) ≡ mixed → out (group_of claim x) ≡ left
      → cond mixed (Err (Of MixedServers)) (cond repeated (Err (Of RepeatedServer))
      (cond left (Err LeftOut) (Ok (part_of claim stretch x y)))) ≡ Ok part → Says entry part
  tested entry x y true repeated left part at_x at_y one in' e = absurd cc
  tested entry x y false true left part at_x at_y one in' e = absurd cc
  tested entry x y false false true part at_x at_y one in' e = absurd cc
  tested entry x y false false false part at_x at_y one in' e = record {
    low = x;
    high = y;
    low_stands = at_x;
    high_stands = at_y;
    one_server = grind (arith, nat_tests);
    stays = in';
    is = (let same : part_of claim stretch x y ≡ part = cc in same);
  }

  said : (earlier : List Part) (entry : ℕ × ℕ) (low high : Option Exchange) (part : Part)
      → slice_get xs entry.0 ≡ low → slice_get xs entry.1 ≡ high
      → part_from claim out stretch earlier low high ≡ Ok part → Says entry part
  said earlier entry None high part at_low at_high e = absurd cc
  said earlier entry (Some x) None part at_low at_high e = absurd cc
  said earlier entry (Some x) (Some y) part at_low at_high e =
      tested entry x y (not (x.server == y.server)) (list_any (λ part. part.server == x.server) earlier)
      (out (group_of claim x)) part at_low at_high refl refl e

  -- what follows of the first entry's part and the rest follows if no entry is refused
  step : (C : Type 0) (earlier : List Part) (entries : List (ℕ × ℕ)) (parts : List Part) (first : Result Part PieceWhy)
      → ((part : Part) → first ≡ Ok part
      → parts_after claim xs out stretch (earlier ++ part ∷ []) entries ≡ Ok parts → C)
      → unless_refused first (λ part. parts_after claim xs out stretch (earlier ++ part ∷ []) entries) ≡ Ok parts → C
  step C earlier entries parts (Err why) rest e = absurd cc
  step C earlier entries parts (Ok part) rest e = rest part refl e

  -- what holds of whatever an entry says holds of all that the entries say
  module _ (P : Part → Type 0) where
    after : (earlier : List Part) (entries : List (ℕ × ℕ)) (parts : List Part)
        → ((j : ℕ) (entry : ℕ × ℕ) (part : Part) → slice_get entries j ≡ Some entry → Says entry part → P part)
        → All P earlier → parts_after claim xs out stretch earlier entries ≡ Ok parts → All P parts
    after earlier [] parts each so_far e = (let same : earlier ≡ parts = cc in subst (All P) same so_far)
    after earlier (entry ∷ entries) parts each so_far e =
        step (All P parts) earlier entries parts
        (part_from claim out stretch earlier (slice_get xs entry.0) (slice_get xs entry.1))
        (λ part is rest.
        after (earlier ++ part ∷ []) entries parts (λ j next said' at. each (suc j) next said' at)
        (All-push P earlier part so_far (each 0 entry part refl (said earlier entry _ _ part refl refl is))) rest)
        e

    pub all_said : (entries : List (ℕ × ℕ)) (parts : List Part)
        → ((j : ℕ) (entry : ℕ × ℕ) (part : Part) → slice_get entries j ≡ Some entry → Says entry part → P part)
        → parts_after claim xs out stretch [] entries ≡ Ok parts → All P parts
    all_said entries parts each e = after [] entries parts each (All-nil P) e

  -- what was said before is kept
  kept : (earlier : List Part) (entries : List (ℕ × ℕ)) (parts : List Part) (i : ℕ) (part : Part)
      → slice_get earlier i ≡ Some part → parts_after claim xs out stretch earlier entries ≡ Ok parts
      → slice_get parts i ≡ Some part
  kept earlier [] parts i part at e =
      (let same : earlier ≡ parts = cc in subst (λ (l : List Part). slice_get l i ≡ Some part) same at)
  kept earlier (entry ∷ entries) parts i part at e =
      step (slice_get parts i ≡ Some part) earlier entries parts
      (part_from claim out stretch earlier (slice_get xs entry.0) (slice_get xs entry.1))
      (λ next is rest. kept (earlier ++ next ∷ []) entries parts i part (still_there earlier next i part at) rest) e

  -- one of these parts is what an entry says
  abbrev pub IsHeard : List Part → ℕ × ℕ → Type 0
  IsHeard parts entry = (i : ℕ) × (part : Part) × (slice_get parts i ≡ Some part) × Says entry part

  heard_after : (earlier : List Part) (entries : List (ℕ × ℕ)) (parts : List Part) (j : ℕ) (entry : ℕ × ℕ)
      → slice_get entries j ≡ Some entry → parts_after claim xs out stretch earlier entries ≡ Ok parts
      → IsHeard parts entry
  heard_after earlier [] parts j entry at e = absurd cc
  heard_after earlier (first ∷ entries) parts zero entry at e =
      let same : first ≡ entry = cc in
      step (IsHeard parts entry) earlier entries parts
      (part_from claim out stretch earlier (slice_get xs first.0) (slice_get xs first.1))
      (λ part is rest. (
        length earlier,
        part,
        kept (earlier ++ part ∷ []) entries parts (length earlier) part (put_there earlier part) rest,
        subst (λ (it : ℕ × ℕ). Says it part) same (said earlier first _ _ part refl refl is),
      )) e
  heard_after earlier (first ∷ entries) parts (suc j) entry at e =
      step (IsHeard parts entry) earlier entries parts
      (part_from claim out stretch earlier (slice_get xs first.0) (slice_get xs first.1))
      (λ part is rest. heard_after (earlier ++ part ∷ []) entries parts j entry at rest) e

  -- each entry is heard
  pub each_heard : (entries : List (ℕ × ℕ)) (parts : List Part) (j : ℕ) (entry : ℕ × ℕ)
      → slice_get entries j ≡ Some entry → parts_after claim xs out stretch [] entries ≡ Ok parts
      → IsHeard parts entry
  each_heard entries parts j entry at e = heard_after [] entries parts j entry at e

  -- their servers are listed, if those of the exchanges are
  pub listed_parts : (servers : ℕ) (entries : List (ℕ × ℕ)) (parts : List Part)
      → All (IsLawfulExchange servers) xs → parts_after claim xs out stretch [] entries ≡ Ok parts
      → All (λ part. part.server < servers) parts
  listed_parts servers entries parts each e =
      all_said (λ part. part.server < servers) entries parts
      (λ j entry part at said'.
      let x = All-slice_get (IsLawfulExchange servers) xs entry.0 said'.low each said'.low_stands in
      let is : said'.low.server ≡ part.server = ap (λ (p : Part). p.server) said'.is in
      let below = x.listed in
      omega arith)
      e
