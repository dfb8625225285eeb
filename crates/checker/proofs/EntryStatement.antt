-- What the entries of a piece say, all in their order, and that no server says it twice.
use Rattle.checker.proofs.Common.{◌≡◌, ◌≢◌, ℕ, suc, ◌<◌, false, List, [], ◌∷◌, ◌++◌, Some, Result, Ok, length, get_or, refl, sym, ap, ◌∙◌, subst, arith, All, AllPairs, slice_get, ◌==◌, AllZip, list_any, nat_tests, append-nil, append_assoc, All-cons, All-nil, list_any_at, list_any_none, Sample, IsSaidBy, AreSaidBy, part_from, parts_after, unless_refused, Part, Stretch, Why, by_test, ne_eqb, All-slice_get, ints, rules}
use Rattle.std.proofs.lemmas.Grind.{common_steps}
use Rattle.std.proofs.lemmas.List.Quantifiers.{all_pairs_push}
use Rattle.checker.proofs.Part.{takes, accepted, begins}

-- what follows of each pair of two lists holds of all of the second
pub zip_all : {X Y : Type 0} (R : X → Y → Type 0) (P : Y → Type 0) (xs : List X) (ys : List Y) → AllZip R xs ys
    → ((j : ℕ) (x : X) (y : Y) → slice_get xs j ≡ Some x → R x y → P y) → All P ys
zip_all R P [] [] zip each = All-nil P
zip_all R P [] (y ∷ ys) zip each = absurd zip
zip_all R P (x ∷ xs) [] zip each = absurd zip
zip_all R P (x ∷ xs) (y ∷ ys) zip each =
    All-cons P y ys (each 0 x y refl zip.0)
    (zip_all R P xs ys zip.1 (λ j x' y' at r. each (suc j) x' y' at r))

-- two parts of different servers
abbrev pub AreApart : Part → Part → Type 0
AreApart part later = part.server ≢ later.server

differ : (a b : ℕ) → (a == b) ≡ false → a ≢ b
differ a b h = λ same. grind (arith, nat_tests)

-- a server that isn't named yet is apart from all that are
apart_from : (server : ℕ) (earlier : List Part) → list_any (λ part. part.server == server) earlier ≡ false
    → All (λ part. part.server ≢ server) earlier
apart_from server earlier none k d below = grind (arith, ints, nat_tests, by_test, list_any_at, differ)

-- and so it is, if the parts of the whole list are apart
new_from : (earlier later : List Part) (part : Part) → AllPairs AreApart (earlier ++ part ∷ later)
    → list_any (λ other. other.server == part.server) earlier ≡ false
new_from earlier later part apart =
    list_any_none (λ (other : Part). other.server == part.server) earlier
    (λ k d below.
    let all = earlier ++ part ∷ later in
    let front : get_or all k d ≡ get_or earlier k d = grind (arith, common_steps) in
    let here : get_or all (length earlier) d ≡ part = grind (arith, common_steps) in
    let within : length earlier < length all = grind (arith, common_steps) in
    ne_eqb (get_or earlier k d).server part.server
    (subst (λ (p : Part). p.server ≢ part.server) front
    (subst (λ (p : Part). (get_or all k d).server ≢ p.server) here (apart k (length earlier) d below within))))

module _ (samples : List Sample) (stretch : Stretch) (ppb : ℕ) where
  -- ---- from the tests to the fact

  -- an entry that isn't refused, after others
  said_once : (earlier : List Part) (entry : ℕ × ℕ) (part : Part)
      → part_from stretch ppb earlier (slice_get samples entry.0) (slice_get samples entry.1) ≡ Ok part
      → IsSaidBy samples stretch ppb entry part × All (λ other. other.server ≢ part.server) earlier
  said_once earlier entry part e =
      let taken = takes stretch ppb earlier _ _ part e in (
        record {
          low = taken.low;
          high = taken.high;
          low_is = taken.low_is;
          high_is = taken.high_is;
          one_server = taken.one_server;
          is = sym taken.is;
        },
        subst (λ (p : Part). All (λ other. other.server ≢ p.server) earlier) taken.is
            (apart_from taken.low.server earlier taken.new),
      )

  -- what entries say after others, of which all are apart
  pub record SaidAfter (earlier : List Part) (entries : List (ℕ × ℕ)) (parts : List Part) : Type 0 where
    pub more : List Part
    pub joined : parts ≡ earlier ++ more
    pub said : AreSaidBy samples stretch ppb entries more
    pub apart : AllPairs AreApart parts

  said_after : (earlier : List Part) (entries : List (ℕ × ℕ)) (parts : List Part) → AllPairs AreApart earlier
      → parts_after samples stretch ppb earlier entries ≡ Ok parts → SaidAfter earlier entries parts
  said_after earlier [] parts apart e = search rules
  said_after earlier (entry ∷ entries) parts apart e =
      let first = begins samples stretch ppb earlier entry entries parts e in
      let here = said_once earlier entry first.part first.said in
      let later = said_after (earlier ++ first.part ∷ []) entries parts
      (all_pairs_push AreApart earlier first.part apart here.1) first.rest in
      record {
        more = first.part ∷ later.more;
        joined = later.joined ∙ append_assoc earlier (first.part ∷ []) later.more;
        said = (here.0, later.said);
        apart = later.apart;
      }

  no_pairs : AllPairs AreApart []
  no_pairs i j d less below = absurd (omega (arith, below))

  -- what entries say if none of them is refused
  pub said_from : (entries : List (ℕ × ℕ)) (parts : List Part)
      → parts_after samples stretch ppb [] entries ≡ Ok parts
      → AreSaidBy samples stretch ppb entries parts × AllPairs AreApart parts
  said_from entries parts e = grind (arith, ints, nat_tests, said_after [] entries parts no_pairs e)

  -- what holds of whatever an entry can say holds of all that the entries say
  pub all_said : (P : Part → Type 0) (entries : List (ℕ × ℕ)) (parts : List Part)
      → ((entry : ℕ × ℕ) (part : Part) → IsSaidBy samples stretch ppb entry part → P part)
      → parts_after samples stretch ppb [] entries ≡ Ok parts → All P parts
  all_said P entries parts each e =
      zip_all (IsSaidBy samples stretch ppb) P entries parts (said_from entries parts e).0
      (λ j entry part at said. each entry part said)

  -- the servers of what the entries say are listed, if those of the samples are
  pub listed_parts : (servers : ℕ) (entries : List (ℕ × ℕ)) (parts : List Part)
      → All (λ sample. sample.server < servers) samples → parts_after samples stretch ppb [] entries ≡ Ok parts
      → All (λ part. part.server < servers) parts
  listed_parts servers entries parts listed e =
      all_said (λ part. part.server < servers) entries parts
      (λ entry part said.
      let same = ap (λ (p : Part). p.server) said.is in
      let low = All-slice_get (λ sample. sample.server < servers) samples entry.0 said.low listed said.low_is in
      omega arith)
      e

  -- ---- and back

  taken_after : (earlier : List Part) (entries : List (ℕ × ℕ)) (more : List Part)
      → AreSaidBy samples stretch ppb entries more → AllPairs AreApart (earlier ++ more)
      → parts_after samples stretch ppb earlier entries ≡ Ok (earlier ++ more)
  taken_after earlier [] [] said apart = ap Ok (sym (append-nil earlier))
  taken_after earlier [] (part ∷ more) said apart = absurd said
  taken_after earlier (entry ∷ entries) [] said apart = absurd said
  taken_after earlier (entry ∷ entries) (part ∷ more) said apart =
      let first = said.0 in
      let same : part.server ≡ first.low.server = ap (λ (p : Part). p.server) first.is in
      let new : list_any (λ (other : Part). other.server == first.low.server) earlier ≡ false =
      subst (λ (s : ℕ). list_any (λ (other : Part). other.server == s) earlier ≡ false) same
      (new_from earlier more part apart) in
      let taken : part_from stretch ppb earlier (slice_get samples entry.0) (slice_get samples entry.1) ≡ Ok part =
      accepted stretch ppb earlier first.low first.high (slice_get samples entry.0) (slice_get samples entry.1)
      first.low_is first.high_is first.one_server new
      ∙ ap Ok (sym first.is) in
      let joined : (earlier ++ part ∷ []) ++ more ≡ earlier ++ part ∷ more =
      append_assoc earlier (part ∷ []) more in
      ap
      (λ (r : Result Part Why).
      unless_refused r (λ p. parts_after samples stretch ppb (earlier ++ p ∷ []) entries))
      taken
      ∙ taken_after (earlier ++ part ∷ []) entries more said.1 (subst (AllPairs AreApart) (sym joined) apart)
      ∙ ap Ok joined

  pub taken_from : (entries : List (ℕ × ℕ)) (parts : List Part) → AreSaidBy samples stretch ppb entries parts
      → AllPairs AreApart parts → parts_after samples stretch ppb [] entries ≡ Ok parts
  taken_from entries parts said apart = taken_after [] entries parts said apart
