-- What the servers say over a stretch: all of it is said in one way, and the entries say it to a checker.
use Rattle.std.proofs.Common.{◌≡◌, ℕ, zero, suc, ◌-◌, ◌<◌, ℤ, neg_ℤ, ◌≤ℤ◌, Bool, true, false, not, List, [], ◌∷◌, ◌++◌, length, get_or, Some, Ok, Result, refl, sym, ap, ap₂, ◌∙◌, subst, arith, append-nil, append_assoc, ⊎_elim}
use Rattle.std.proofs.lemmas.Bool.Decides.{nat_tests}
use Rattle.std.proofs.lemmas.Int.{ints}
use Rattle.std.proofs.lemmas.List.Folds.{list_any_none}
use Rattle.std.proofs.lemmas.Option.{get_or_from_slice_get, slice_get-get_or, slice_get_within}
use Rattle.std.specs.List.{list_any}
use Rattle.std.specs.Prelude.{AllPairs, slice_get, ◌==◌}
use Rattle.cover_checker.specs.Acceptance.{ShowBound}
use Rattle.cover_checker.specs.Entry.{part_from, parts_after, unless_refused}
use Rattle.cover_checker.specs.declared.verdict.PieceWhy.{PieceWhy}
use Rattle.intersection.proofs.EndPoints.{IsHull-hull_of}
use Rattle.intersection.specs.Hull.{IsHull}
use Rattle.lemma_base.proofs.Int.{int_le-true}
use Rattle.lemma_base.proofs.List.{All-slice_get}
use Rattle.span_cover.specs.Group.{group_intervals}
use Rattle.cover_finder.specs.Common.{Bounded, ClaimData, Empty, Exchange, Hull, IsSaid, IsSaidBySome, Part, Stretch, Unbounded, is_inside, piece_hull, size_of, stretch_over}
use Rattle.cover_finder.specs.Hull.{AreWhole, IsWhole}
use Rattle.cover_finder.specs.Open.{LiesInside}
use Rattle.cover_finder.specs.Table.{AreInStep}
use Rattle.cover_finder.proofs.List.{pushed_at}

-- ---- parts in the order of their servers

-- each part is of a lower server than those behind it
abbrev Rises : List Part → Type 0
Rises parts = (i j : ℕ) (a b : Part) → i < j → slice_get parts i ≡ Some a → slice_get parts j ≡ Some b
    → a.server < b.server

-- the part is one of these
abbrev IsIn : List Part → Part → Type 0
IsIn parts part = (k : ℕ) × (slice_get parts k ≡ Some part)

rises : (parts : List Part) → AllPairs (λ a b. a.server < b.server) parts → Rises parts
rises parts each i j a b less at_a at_b =
    subst (λ (p : Part). a.server < p.server) (get_or_from_slice_get parts j b a at_b)
    (subst (λ (p : Part). p.server < (get_or parts j a).server) (get_or_from_slice_get parts i a a at_a)
    (each i j a less (slice_get_within parts j b at_b)))

later : (p : Part) (ps : List Part) → Rises (p ∷ ps) → Rises ps
later p ps rise i j a b less at_a at_b = rise (suc i) (suc j) a b (omega arith) at_a at_b

same_first : (p q : Part) (ps qs : List Part) → Rises (p ∷ ps) → Rises (q ∷ qs) → IsIn (q ∷ qs) p → IsIn (p ∷ ps) q
    → p ≡ q
same_first p q ps qs rise rise' (zero, at) in_ps = cc
same_first p q ps qs rise rise' (suc k, at) (zero, at') = cc
same_first p q ps qs rise rise' (suc k, at) (suc j, at') =
    let up = rise 0 (suc j) p q (omega arith) refl at' in
    let down = rise' 0 (suc k) q p (omega arith) refl at in
    absurd (omega (arith, up, down))

-- a part behind the first of some parts, if it is one of others with the same first, is behind that one
behind_first : (p q r : Part) (ps qs : List Part) → Rises (p ∷ ps) → p ≡ q → IsIn ps r → IsIn (q ∷ qs) r → IsIn qs r
behind_first p q r ps qs rise same (k, at) (zero, at') =
    let is : r ≡ p = cc in
    absurd (omega (arith, rise 0 (suc k) p r (omega arith) refl at, ap (λ (x : Part). x.server) is))
behind_first p q r ps qs rise same (k, at) (suc j, at') = (j, at')

nothing_in : (p : Part) → IsIn [] p → ⊥
nothing_in p (k, at) = absurd cc

same_lists : (ps qs : List Part) → Rises ps → Rises qs → ((r : Part) → IsIn ps r → IsIn qs r)
    → ((r : Part) → IsIn qs r → IsIn ps r) → ps ≡ qs
same_lists [] [] rise rise' forth back = refl
same_lists [] (q ∷ qs) rise rise' forth back = absurd (nothing_in q (back q (0, refl)))
same_lists (p ∷ ps) [] rise rise' forth back = absurd (nothing_in p (forth p (0, refl)))
same_lists (p ∷ ps) (q ∷ qs) rise rise' forth back =
    let same = same_first p q ps qs rise rise' (forth p (0, refl)) (back q (0, refl)) in
    ap₂ (λ (r : Part) (rs : List Part). r ∷ rs) same
    (same_lists ps qs (later p ps rise) (later q qs rise')
    (λ r is. behind_first p q r ps qs rise same is (forth r (suc is.0, is.1)))
    (λ r is. behind_first q p r qs ps rise' (sym same) is (back r (suc is.0, is.1))))

-- ---- all that is said

abbrev part_with : ℕ → ℤ → ℤ → Part
part_with s l h = record { server = s; interval = record { lo = l; hi = h } }

equal_parts : (p q : Part) → p.server ≡ q.server → p.interval.lo ≡ q.interval.lo → p.interval.hi ≡ q.interval.hi
    → p ≡ q
equal_parts p q server lo hi =
    ap₂ (λ (s : ℕ) (l : ℤ). part_with s l p.interval.hi) server lo ∙ ap (part_with q.server q.interval.lo) hi

module _ (claim : ClaimData) (xs : List Exchange) (out : ℕ → Bool) (stretch : Stretch) where
  -- all that a server says is no wider than what an entry says of it
  no_wider : (entry : ℕ × ℕ) (p q : Part) → IsSaid claim xs out stretch entry p → IsWhole claim xs stretch q
      → p.server ≡ q.server → (p.interval.lo ≤ℤ q.interval.lo) × (q.interval.hi ≤ℤ p.interval.hi)
  no_wider entry p q said whole same =
      let of_low : said.low.server ≡ q.server = ap (λ (r : Part). r.server) said.is ∙ same in
      let of_high : said.high.server ≡ q.server = sym said.one_server ∙ of_low in (
        subst (λ (z : ℤ). z ≤ℤ q.interval.lo) (ap (λ (r : Part). r.interval.lo) said.is)
            (whole.low entry.0 said.low said.low_stands of_low),
        subst (λ (z : ℤ). q.interval.hi ≤ℤ z) (ap (λ (r : Part). r.interval.hi) said.is)
            (whole.high entry.1 said.high said.high_stands of_high),
      )

  same_part : (p q : Part) → IsSaidBySome claim xs out stretch p → IsSaidBySome claim xs out stretch q
      → IsWhole claim xs stretch p → IsWhole claim xs stretch q → p.server ≡ q.server → p ≡ q
  same_part p q said_p said_q whole_p whole_q same =
      let inner = no_wider said_p.0 p q said_p.1 whole_q same in
      let outer = no_wider said_q.0 q p said_q.1 whole_p (sym same) in
      equal_parts p q same (omega (arith, ints, inner.0, outer.0)) (omega (arith, ints, inner.1, outer.1))

  in_other : (ps qs : List Part) → AreWhole claim xs out stretch ps → AreWhole claim xs out stretch qs
      → (p : Part) → IsIn ps p → IsIn qs p
  in_other ps qs all others p (k, at) =
      let said = All-slice_get (IsSaidBySome claim xs out stretch) ps k p all.said at in
      let found = others.each (said.0).0 (said.1).low (said.1).low_stands (said.1).stays in
      let q = found.1 in
      let there : slice_get qs found.0 ≡ Some q = slice_get-get_or qs found.0 q found.2 ∙ ap Some found.3 in
      let same = same_part p q said (All-slice_get (IsSaidBySome claim xs out stretch) qs found.0 q others.said there)
      (All-slice_get (IsWhole claim xs stretch) ps k p all.whole at)
      (All-slice_get (IsWhole claim xs stretch) qs found.0 q others.whole there)
      (sym (ap (λ (r : Part). r.server) (said.1).is) ∙ sym found.4) in
      (found.0, there ∙ ap Some (sym same))

  pub said_once : (ps qs : List Part) → AreWhole claim xs out stretch ps → AreWhole claim xs out stretch qs → ps ≡ qs
  said_once ps qs all others =
      same_lists ps qs (rises ps all.rising) (rises qs others.rising) (in_other ps qs all others)
      (in_other qs ps others all)

  -- ---- entries

  apart : (a s : ℕ) → a < s → (a == s) ≡ false
  apart a s less = grind (arith, nat_tests)

  taken : (earlier : List Part) (entry : ℕ × ℕ) (part : Part) (said : IsSaid claim xs out stretch entry part)
      → list_any (λ p. p.server == said.low.server) earlier ≡ false
      → part_from claim out stretch earlier (slice_get xs entry.0) (slice_get xs entry.1) ≡ Ok part
  taken earlier entry part said unnamed =
      let one : not (said.low.server == said.high.server) ≡ false =
      let same = said.one_server in grind (arith, nat_tests) in
      rw (said.low_stands, said.high_stands, one, unnamed, said.stays) (ap Ok said.is)

  said_after : (earlier : List Part) (entries : List (ℕ × ℕ)) (parts : List Part) → length entries ≡ length parts
      → AreInStep claim xs out stretch entries parts
      → ((i j : ℕ) (a b : Part) → slice_get earlier i ≡ Some a → slice_get parts j ≡ Some b → a.server < b.server)
      → Rises parts → parts_after claim xs out stretch earlier entries ≡ Ok (earlier ++ parts)
  said_after earlier [] [] same step before rise = ap Ok (sym (append-nil earlier))
  said_after earlier [] (part ∷ parts) same step before rise = absurd (omega (arith, same))
  said_after earlier (entry ∷ entries) [] same step before rise = absurd (omega (arith, same))
  said_after earlier (entry ∷ entries) (part ∷ parts) same step before rise =
      let said = step 0 entry part refl refl in
      let of : said.low.server ≡ part.server = ap (λ (p : Part). p.server) said.is in
      let first = taken earlier entry part said
      (list_any_none (λ p. p.server == said.low.server) earlier
      (λ k d below. apart (get_or earlier k d).server said.low.server
      (omega (arith, of, before k 0 (get_or earlier k d) part (slice_get-get_or earlier k d below) refl)))) in
      ap (λ (one : Result Part PieceWhy). unless_refused one
      (λ p. parts_after claim xs out stretch (earlier ++ p ∷ []) entries)) first
      ∙ said_after (earlier ++ part ∷ []) entries parts (omega (arith, same)) (λ k. step (suc k))
      (λ i j a b at_a at_b. ⊎_elim
      (λ old. before i (suc j) a b old.1 at_b)
      (λ new. subst (λ (p : Part). p.server < b.server) new.1 (rise 0 (suc j) part b (omega arith) refl at_b))
      (pushed_at earlier part i a at_a))
      (later part parts rise)
      ∙ ap Ok (append_assoc earlier (part ∷ []) parts)

-- ---- the bound

-- a hull inside the bound has two ends, which lie inside it
record IsBoundedWithin (bound : ℤ) (hull : Hull) : Type 0 where
  lo : ℤ
  hi : ℤ
  is : hull ≡ Bounded lo hi
  above : neg_ℤ bound ≤ℤ lo
  below : hi ≤ℤ bound

bounded_within : (bound : ℤ) (hull : Hull) → is_inside bound hull ≡ true → IsBoundedWithin bound hull
bounded_within bound Unbounded inside = absurd cc
bounded_within bound Empty inside = absurd cc
bounded_within bound (Bounded lo hi) inside = record {
  lo = lo;
  hi = hi;
  is = refl;
  above = grind (arith, ints, nat_tests, int_le-true);
  below = grind (arith, ints, nat_tests, int_le-true);
}

module _ (claim : ClaimData) (xs : List Exchange) (out : ℕ → Bool) (begin end : ℤ) (entries : List (ℕ × ℕ))
    (parts : List Part) (whole : AreWhole claim xs out (stretch_over begin end) parts)
    (in_step : AreInStep claim xs out (stretch_over begin end) entries parts)
    (same : length entries ≡ length parts) (lies : LiesInside claim xs out begin end true) where
  abbrev few : ℕ
  few = claim.false_max - size_of claim out

  hull_is : lies.hull ≡ piece_hull claim.groups few parts
  hull_is = lies.of.is
      ∙ ap (piece_hull claim.groups few)
      (said_once claim xs out (stretch_over begin end) lies.of.parts parts lies.of.whole whole)

  is_hull : IsHull (group_intervals claim.groups parts) few lies.hull
  is_hull =
      let intervals = group_intervals claim.groups parts in
      subst (IsHull intervals few) (sym hull_is) (IsHull-hull_of intervals few)

  pub shows_bound : begin ≤ℤ end → end ≤ℤ claim.last → ShowBound claim xs out (stretch_over begin end) entries
  shows_bound forward in_span =
      let ends = bounded_within claim.bound lies.hull lies.inside in
      record {
        forward = forward;
        in_span = in_span;
        parts = parts;
        said = said_after claim xs out (stretch_over begin end) [] entries parts same in_step
            (λ i j a b at_a at_b. absurd (let none = at_a in cc)) (rises parts whole.rising);
        lo = ends.lo;
        hi = ends.hi;
        hull = subst (IsHull (group_intervals claim.groups parts) few) ends.is is_hull;
        above = ends.above;
        below = ends.below;
      }
