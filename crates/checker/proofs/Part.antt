-- What the entries of a piece say, each by itself.
use Rattle.checker.proofs.Common.{◌≡◌, ◌≢◌, ℕ, ◌<◌, Bool, true, false, cond, not, List, [], ◌∷◌, ◌++◌, Option, Some, None, Result, Ok, Err, length, refl, arith, All, slice_get, ◌==◌, list_any, inl, inr, IsRefusedEntry, BadSample, cond-true, cond-false, nat_tests, Sample, part_of, part_from, parts_after, unless_refused, Part, Stretch, Why, MixedServers, RepeatedServer, ints, rules}

-- the tests on two samples pass
test_fails : (a b : ℕ) → a ≡ b → not (a == b) ≡ false
test_fails a b h = grind (arith, nat_tests)

-- what two samples say that are of one server that isn't named yet
pub accepted : (stretch : Stretch) (ppb : ℕ) (earlier : List Part) (low high : Sample) (at_low at_high : Option Sample)
    → at_low ≡ Some low → at_high ≡ Some high → low.server ≡ high.server
    → list_any (λ part. part.server == low.server) earlier ≡ false
    → part_from stretch ppb earlier at_low at_high ≡ Ok (part_of low high stretch ppb)
accepted stretch ppb earlier low high at_low at_high is_low is_high one new = search rules

-- of two servers, or of one that is named already, they are refused
test_holds : (a b : ℕ) → a ≢ b → not (a == b) ≡ true
test_holds a b h = grind (arith, nat_tests)

module _ (stretch : Stretch) (ppb : ℕ) (earlier : List Part) (low high : Sample) (at_low at_high : Option Sample)
    (is_low : at_low ≡ Some low) (is_high : at_high ≡ Some high) where
  pub mixed : low.server ≢ high.server → Err MixedServers ≡ part_from stretch ppb earlier at_low at_high
  mixed two = grind (arith, ints, nat_tests, cond-true, test_holds)

  pub repeated : low.server ≡ high.server → list_any (λ part. part.server == low.server) earlier ≡ true
      → Err RepeatedServer ≡ part_from stretch ppb earlier at_low at_high
  repeated one named = grind (arith, ints, nat_tests, cond-false, test_fails, cond-true)

-- ---- and what follows of an entry that isn't refused

-- an entry of these samples is what they say, and its server isn't named yet
pub record Takes (stretch : Stretch) (ppb : ℕ) (earlier : List Part) (at_low at_high : Option Sample) (part : Part)
    : Type 0 where
  pub low : Sample
  pub high : Sample
  pub low_is : at_low ≡ Some low
  pub high_is : at_high ≡ Some high
  pub one_server : low.server ≡ high.server
  pub new : list_any (λ part. part.server == low.server) earlier ≡ false
  pub is : part_of low high stretch ppb ≡ part

takes_tested : (stretch : Stretch) (ppb : ℕ) (earlier : List Part) (low high : Sample) (mixed repeated : Bool)
    (part : Part) → not (low.server == high.server) ≡ mixed
    → list_any (λ part. part.server == low.server) earlier ≡ repeated
    → cond mixed (Err MixedServers) (cond repeated (Err RepeatedServer) (Ok (part_of low high stretch ppb))) ≡ Ok part
    → Takes stretch ppb earlier (Some low) (Some high) part
takes_tested stretch ppb earlier low high true repeated part one new e = absurd cc
takes_tested stretch ppb earlier low high false true part one new e = absurd cc
takes_tested stretch ppb earlier low high false false part one new e = search rules

pub takes : (stretch : Stretch) (ppb : ℕ) (earlier : List Part) (at_low at_high : Option Sample) (part : Part)
    → part_from stretch ppb earlier at_low at_high ≡ Ok part → Takes stretch ppb earlier at_low at_high part
takes stretch ppb earlier None at_high part e = absurd cc
takes stretch ppb earlier (Some low) None part e = absurd cc
takes stretch ppb earlier (Some low) (Some high) part e = grind (arith, ints, nat_tests, takes_tested)

-- ---- and of one that is

refused_test : (mixed repeated : Bool) (part : Part) (why : Why)
    → cond mixed (Err MixedServers) (cond repeated (Err RepeatedServer) (Ok part)) ≡ Err why → IsRefusedEntry why
refused_test true repeated part why e = inr (inl (let same : why ≡ MixedServers = cc in same))
refused_test false true part why e = inr (inr (let same : why ≡ RepeatedServer = cc in same))
refused_test false false part why e = absurd cc

pub refused : (stretch : Stretch) (ppb : ℕ) (earlier : List Part) (low high : Option Sample) (why : Why)
    → part_from stretch ppb earlier low high ≡ Err why → IsRefusedEntry why
refused stretch ppb earlier (Some low) (Some high) why e = refused_test _ _ _ why e
refused stretch ppb earlier _ _ why e = inl (let same : why ≡ BadSample = cc in same)

-- ---- the first of several entries, and the rest

module _ (samples : List Sample) (stretch : Stretch) (ppb : ℕ) where
  abbrev pub says : List Part → ℕ × ℕ → Result Part Why
  says earlier entry = part_from stretch ppb earlier (slice_get samples entry.0) (slice_get samples entry.1)

  pub record Begins (earlier : List Part) (entry : ℕ × ℕ) (entries : List (ℕ × ℕ)) (parts : List Part) : Type 0 where
    pub part : Part
    pub said : says earlier entry ≡ Ok part
    pub rest : parts_after samples stretch ppb (earlier ++ part ∷ []) entries ≡ Ok parts

  begins_at : (earlier : List Part) (entry : ℕ × ℕ) (entries : List (ℕ × ℕ)) (parts : List Part)
      (first : Result Part Why) → says earlier entry ≡ first
      → unless_refused first (λ part. parts_after samples stretch ppb (earlier ++ part ∷ []) entries) ≡ Ok parts
      → Begins earlier entry entries parts
  begins_at earlier entry entries parts (Err why) is e = absurd cc
  begins_at earlier entry entries parts (Ok part) is e = record { part = part; said = is; rest = e }

  pub begins : (earlier : List Part) (entry : ℕ × ℕ) (entries : List (ℕ × ℕ)) (parts : List Part)
      → parts_after samples stretch ppb earlier (entry ∷ entries) ≡ Ok parts → Begins earlier entry entries parts
  begins earlier entry entries parts e = begins_at earlier entry entries parts (says earlier entry) refl e

  pub begin_with : (earlier : List Part) (entry : ℕ × ℕ) (entries : List (ℕ × ℕ)) (part : Part)
      → says earlier entry ≡ Ok part → parts_after samples stretch ppb earlier (entry ∷ entries)
      ≡ parts_after samples stretch ppb (earlier ++ part ∷ []) entries
  begin_with earlier entry entries part said = grind (arith, ints, nat_tests)

-- the servers of parts are listed, if they are those of a list that is the same
pub listed_again : (xs ys : List Part) (groups : List ℕ) (n : ℕ) → xs ≡ ys → length groups ≡ n
    → All (λ part. part.server < n) ys → All (λ part. part.server < length groups) xs
listed_again xs ys groups n same count all = grind (arith, ints, nat_tests)
