-- The order in which the entries of a piece stand changes nothing of what they say together.
use Rattle.checker.proofs.Common.{◌≡◌, ℕ, Bool, true, false, cond, ◌||◌, inl, ⊎_elim, List, [], ◌∷◌, ◌++◌, length, Option, Some, None, Result, Ok, Err, refl, sym, ap, ◌∙◌, subst, arith, slice_get, slice_index, ◌==◌, fold, filter_map, list_any, int_max, int_min, ints, clamps, nat_tests, list_any-append, fold-append, filter-append, PieceData, CertificateData, ClaimData, hull_of, Interval, Sample, HasEntriesSwapped, numbers_below, meet_of, narrowed, group_interval, part_from, parts_after, hull_fault, parts_fault, verdict_from, verdict_of, Part, Stretch, Yes, Why, rules}
use Rattle.checker.proofs.Part.{takes, accepted, says, begins, begin_with}
use Rattle.checker.proofs.Comparison.{one_changed}

-- one of the parts is of this server
abbrev pub names : ℕ → List Part → Bool
names server parts = list_any (λ part. part.server == server) parts

-- ---- the meet

meet_swapped : (i x y : Interval) → meet_of (meet_of i x) y ≡ meet_of (meet_of i y) x
meet_swapped i x y =
    let low : int_max (int_max i.lo x.lo) y.lo ≡ int_max (int_max i.lo y.lo) x.lo = omega (arith, ints, clamps) in
    let high : int_min (int_min i.hi x.hi) y.hi ≡ int_min (int_min i.hi y.hi) x.hi = omega (arith, ints, clamps) in
    cc

pub meet_turned : (x y : Interval) → meet_of x y ≡ meet_of y x
meet_turned x y = grind (arith, ints, nat_tests)

narrowed_swapped : (o : Option Interval) (x y : Part) → narrowed (narrowed o x) y ≡ narrowed (narrowed o y) x
narrowed_swapped None x y = ap Some (meet_turned x.interval y.interval)
narrowed_swapped (Some i) x y = ap Some (meet_swapped i x.interval y.interval)

-- what one more part does to what is common
with_part : Bool → Option Interval → Part → Option Interval
with_part test o part = fold narrowed o (cond test (part ∷ []) [])

with_parts_swapped : (s t : Bool) (o : Option Interval) (x y : Part)
    → with_part t (with_part s o x) y ≡ with_part s (with_part t o y) x
unfolding with_part
with_parts_swapped true true o x y = narrowed_swapped o x y
with_parts_swapped _ _ o x y = refl

module _ (groups : List ℕ) where
  pushed : (parts : List Part) (part : Part) (g : ℕ) → group_interval groups (parts ++ part ∷ []) g
      ≡ with_part (slice_index groups part.server == g) (group_interval groups parts g) part
  unfolding with_part
  pushed parts part g = grind (arith, ints, nat_tests, narrowed, filter-append, fold-append)

  -- parts that say the same of servers and of groups
  pub record Similar (parts other : List Part) : Type 0 where
    pub named : (server : ℕ) → names server parts ≡ names server other
    pub common : (g : ℕ) → group_interval groups parts g ≡ group_interval groups other g

  similar_more : (parts other : List Part) (part : Part) → Similar parts other
      → Similar (parts ++ part ∷ []) (other ++ part ∷ [])
  similar_more parts other part is = record {
    named = λ server.
        list_any-append (λ p. p.server == server) parts (part ∷ [])
        ∙ ap (λ (b : Bool). b || names server (part ∷ [])) (is.named server)
        ∙ sym (list_any-append (λ p. p.server == server) other (part ∷ []));
    common = λ g.
        pushed parts part g
        ∙ ap (λ (o : Option Interval). with_part (slice_index groups part.server == g) o part) (is.common g)
        ∙ sym (pushed other part g);
  }

  either_turned : (a b c : Bool) → ((a || (b || false)) || (c || false)) ≡ ((a || (c || false)) || (b || false))
  either_turned true b c = refl
  either_turned false true true = refl
  either_turned false true false = refl
  either_turned false false true = refl
  either_turned false false false = refl

  similar_swapped : (parts : List Part) (x y : Part)
      → Similar ((parts ++ x ∷ []) ++ y ∷ []) ((parts ++ y ∷ []) ++ x ∷ [])
  similar_swapped parts x y = record {
    named = λ server.
        let test : Part → Bool = λ p. p.server == server in
        list_any-append test (parts ++ x ∷ []) (y ∷ [])
        ∙ ap (λ (b : Bool). b || names server (y ∷ [])) (list_any-append test parts (x ∷ []))
        ∙ either_turned (names server parts) (test x) (test y)
        ∙ sym (list_any-append test (parts ++ y ∷ []) (x ∷ [])
        ∙ ap (λ (b : Bool). b || names server (x ∷ [])) (list_any-append test parts (y ∷ [])));
    common = λ g.
        let s : Bool = slice_index groups x.server == g in
        let t : Bool = slice_index groups y.server == g in
        pushed (parts ++ x ∷ []) y g
        ∙ ap (λ (o : Option Interval). with_part t o y) (pushed parts x g)
        ∙ with_parts_swapped s t (group_interval groups parts g) x y
        ∙ sym (pushed (parts ++ y ∷ []) x g ∙ ap (λ (o : Option Interval). with_part s o x) (pushed parts y g));
  }

  same_intervals : (parts other : List Part) (gs : List ℕ) → Similar parts other
      → filter_map (group_interval groups parts) gs ≡ filter_map (group_interval groups other) gs
  same_intervals parts other [] is = refl
  same_intervals parts other (g ∷ gs) is = grind (arith, ints, nat_tests)

-- ---- entries

module _ (samples : List Sample) (claim : ClaimData) (stretch : Stretch) where
  abbrev after : List Part → List (ℕ × ℕ) → Result (List Part) Why
  after earlier entries = parts_after samples stretch claim.drift_ppb earlier entries

  -- what an entry says after some parts it says after others, if its server isn't named among these
  pub record SaysAgain (low high : Option Sample) (earlier : List Part) (part : Part) : Type 0 where
    pub new : names part.server earlier ≡ false
    pub again : (other : List Part) → names part.server other ≡ false
        → part_from stretch claim.drift_ppb other low high ≡ Ok part

  says_again : (low high : Option Sample) (earlier : List Part) (part : Part)
      → part_from stretch claim.drift_ppb earlier low high ≡ Ok part → SaysAgain low high earlier part
  says_again low high earlier part e =
      let taken = takes stretch claim.drift_ppb earlier low high part e in
      subst (λ (p : Part). SaysAgain low high earlier p) taken.is (record {
        new = taken.new;
        again = λ other new. accepted stretch claim.drift_ppb other taken.low taken.high low high taken.low_is
            taken.high_is taken.one_server new;
      })

  -- what the same entries say after similar parts is similar
  pub record SaysSimilar (other : List Part) (entries : List (ℕ × ℕ)) (parts : List Part) : Type 0 where
    pub parts' : List Part
    pub said : after other entries ≡ Ok parts'
    pub similar : Similar claim.groups parts parts'

  says_similar : (earlier other : List Part) (entries : List (ℕ × ℕ)) (parts : List Part)
      → Similar claim.groups earlier other → after earlier entries ≡ Ok parts → SaysSimilar other entries parts
  says_similar earlier other [] parts is e = search rules
  says_similar earlier other (entry ∷ entries) parts is e =
      let first = begins samples stretch claim.drift_ppb earlier entry entries parts e in
      let again = says_again (slice_get samples entry.0) (slice_get samples entry.1) earlier first.part first.said in
      let said : says samples stretch claim.drift_ppb other entry ≡ Ok first.part =
      again.again other (sym (is.named first.part.server) ∙ again.new) in
      let rest = says_similar (earlier ++ first.part ∷ []) (other ++ first.part ∷ []) entries parts
      (similar_more claim.groups earlier other first.part is) first.rest in
      record {
        parts' = rest.parts';
        said = begin_with samples stretch claim.drift_ppb other entry entries first.part said ∙ rest.said;
        similar = rest.similar;
      }

  both_new : (a b : Bool) → (a || (b || false)) ≡ false → (a ≡ false) × (b ≡ false)
  both_new true b h = absurd cc
  both_new false true h = absurd cc
  both_new false false h = (refl, refl)

  other_server : (a b : ℕ) → (a == b) ≡ false → (b == a) ≡ false
  other_server a b h = grind (arith, nat_tests)

  -- two entries in the other order
  turned : (earlier : List Part) (x y : ℕ × ℕ) (back : List (ℕ × ℕ)) (parts : List Part)
      → after earlier (x ∷ y ∷ back) ≡ Ok parts → SaysSimilar earlier (y ∷ x ∷ back) parts
  turned earlier x y back parts e =
      let first = begins samples stretch claim.drift_ppb earlier x (y ∷ back) parts e in
      let second = begins samples stretch claim.drift_ppb (earlier ++ first.part ∷ []) y back parts first.rest in
      let p = first.part in
      let q = second.part in
      let again_p = says_again (slice_get samples x.0) (slice_get samples x.1) earlier p first.said in
      let again_q = says_again (slice_get samples y.0) (slice_get samples y.1) (earlier ++ p ∷ []) q second.said in
      let new_q = both_new (names q.server earlier) (p.server == q.server)
      (sym (list_any-append (λ r. r.server == q.server) earlier (p ∷ [])) ∙ again_q.new) in
      let q_first : says samples stretch claim.drift_ppb earlier y ≡ Ok q = again_q.again earlier new_q.0 in
      let p_new : names p.server (earlier ++ q ∷ []) ≡ false =
      list_any-append (λ r. r.server == p.server) earlier (q ∷ [])
      ∙ rw (again_p.new, other_server p.server q.server new_q.1) refl in
      let p_second : says samples stretch claim.drift_ppb (earlier ++ q ∷ []) x ≡ Ok p =
      again_p.again (earlier ++ q ∷ []) p_new in
      let rest = says_similar ((earlier ++ p ∷ []) ++ q ∷ []) ((earlier ++ q ∷ []) ++ p ∷ []) back parts
      (similar_swapped claim.groups earlier p q) second.rest in
      record {
        parts' = rest.parts';
        said = begin_with samples stretch claim.drift_ppb earlier y (x ∷ back) q q_first
            ∙ begin_with samples stretch claim.drift_ppb (earlier ++ q ∷ []) x back p p_second ∙ rest.said;
        similar = rest.similar;
      }

  turned_after : (earlier : List Part) (front : List (ℕ × ℕ)) (x y : ℕ × ℕ) (back : List (ℕ × ℕ)) (parts : List Part)
      → after earlier (front ++ x ∷ y ∷ back) ≡ Ok parts → SaysSimilar earlier (front ++ y ∷ x ∷ back) parts
  turned_after earlier [] x y back parts e = turned earlier x y back parts e
  turned_after earlier (entry ∷ front) x y back parts e =
      grind (
        arith,
        turned_after (earlier ++ (begins samples stretch claim.drift_ppb earlier entry (front ++ x ∷ y ∷ back) parts
            e).part ∷ []) front x y back parts (begins samples stretch claim.drift_ppb earlier entry (front ++ x ∷ y ∷ back)
            parts e).rest,
      )

  turned_passes : (front : List (ℕ × ℕ)) (x y : ℕ × ℕ) (back : List (ℕ × ℕ)) (said : Result (List Part) Why)
      → after [] (front ++ x ∷ y ∷ back) ≡ said → parts_fault claim said ≡ None
      → parts_fault claim (after [] (front ++ y ∷ x ∷ back)) ≡ None
  turned_passes front x y back (Err why) is e = absurd cc
  turned_passes front x y back (Ok parts) is e =
      let again = turned_after [] front x y back parts is in
      let same = same_intervals claim.groups parts again.parts' (numbers_below (length claim.groups)) again.similar in
      ap (λ (r : Result (List Part) Why). parts_fault claim r) again.said
      ∙ ap (λ (list : List Interval). hull_fault claim.bound (hull_of list claim.false_max)) (sym same) ∙ e

pub entries_turned : (samples : List Sample) (claim : ClaimData) (certificate swapped : CertificateData)
    → HasEntriesSwapped certificate swapped
    → verdict_of samples claim certificate ≡ Yes → verdict_of samples claim swapped ≡ Yes
entries_turned samples claim certificate swapped has e =
    let never : Why → Type 0 = λ why. ⊥ in
    let piece : PieceData = record { entries = has.front ++ has.first ∷ has.second ∷ has.back; upto = has.upto } in
    let next : PieceData = record { entries = has.front ++ has.second ∷ has.first ∷ has.back; upto = has.upto } in
    let verdict = one_changed samples claim never has.before piece next has.after refl
    (λ stretch passes. inl
    (turned_passes samples claim stretch has.front has.first has.second has.back _ refl passes))
    (ap (λ (ps : List PieceData). verdict_from samples claim 0 claim.first ps) (sym has.is) ∙ e) in
    ap (λ (ps : List PieceData). verdict_from samples claim 0 claim.first ps) has.swapped_is
    ∙ ⊎_elim (λ is. is) (λ found. absurd found.3) verdict
