-- The tables of servers, and what they say one after another.
use Rattle.std.proofs.Common.{◌≡◌, ℕ, ◌+◌, ◌-◌, ◌<◌, ◌≤◌, ℤ, neg_ℤ, ◌+ℤ◌, ◌-ℤ◌, ◌≤ℤ◌, Bool, true, false, true≢false, List, [], ◌∷◌, ◌++◌, length, get_or, All, Option, Some, None, MatchOption, refl, sym, subst, ap, ap₂, ◌∙◌, arith, ⊎_elim}
use Rattle.std.proofs.lemmas.Cmp.{int_cmp_total}
use Rattle.std.proofs.lemmas.Int.{ints}
use Rattle.std.proofs.lemmas.List.{length-append}
use Rattle.std.proofs.lemmas.List.Elements.{All-nil, All-push, Contains-append_left, Contains-push}
use Rattle.std.proofs.lemmas.List.Quantifiers.{Any-push, all_pairs_push}
use Rattle.std.proofs.lemmas.List.Sorted.{All-permutation, Contains-permutation, ranks_by, sorted_far}
use Rattle.std.proofs.lemmas.Option.{get_or_from_slice_get, same_Some, slice_get-get_or, slice_get_within}
use Rattle.std.specs.List.{AllPairs, Any, Contains, slice_get, slice_index}
use Rattle.std.specs.Ordering.{int_cmp, is_lt}
use Rattle.std.specs.Prelude.{IsPermutation, IsSortedByKey}
use Rattle.lemma_base.proofs.List.{All-slice_get, slice_get-below}
use Rattle.lemma_base.proofs.Nat.{lt_next_cases}
unfoldable use Rattle.cover_checker.specs.Interval.{rise}
unfoldable use Rattle.sample_interval.specs.Widening.{widening}
use Rattle.cover_finder.specs.Common.{ClaimData, Exchange, IsLawful, IsSaid, Mark, Part, Stretch, billion, high_mark, high_over, low_mark, low_over, part_of}
use Rattle.cover_finder.specs.Hull.{AreWhole, IsWhole}
use Rattle.cover_finder.specs.Side.{AreInOrder, IsHighestOver, end_over}
use Rattle.cover_finder.specs.Table.{AreInStep, AreMarksUpto, AreTablesOf, HasNone, IsAllSaid, IsMarkOf, IsSaidWithout, IsTableOf, numbered, turned_high}
use Rattle.cover_finder.specs.declared.peak.End.{End}
use Rattle.cover_finder.specs.declared.peak.Numbered.{Numbered}
use Rattle.cover_finder.specs.declared.table.Table.{Table}
use Rattle.cover_finder.proofs.List.{each_pushed, pushed_at}

-- ---- marks in order

not_less : (a b : ℤ) → is_lt (int_cmp b a) ≡ false → a ≤ℤ b
not_less a b h = grind (arith, ints)

pub in_order : (marks : List Numbered) → IsSortedByKey (λ one. one.mark.place) int_cmp marks → AreInOrder marks
in_order marks sorted i j a b le at_a at_b =
    let within = slice_get_within marks j b at_b in
    let order = not_less (get_or marks i a).mark.place (get_or marks j a).mark.place
    (sorted_far (λ (x y : Numbered). is_lt (int_cmp x.mark.place y.mark.place))
    (ranks_by int_cmp_total (λ (m : Numbered). m.mark.place)) marks sorted i j a le within) in
    subst (λ (m : Numbered). a.mark.place ≤ℤ m.mark.place) (get_or_from_slice_get marks j b a at_b)
    (subst (λ (m : Numbered). m.mark.place ≤ℤ (get_or marks j a).mark.place) (get_or_from_slice_get marks i a a at_a)
    order)

-- ---- the marks of a server

module _ (of : Exchange → Mark) (xs : List Exchange) (server : ℕ) where
  module _ (n : ℕ) (marks : List Numbered) (are : AreMarksUpto of xs server n marks) where
    -- the next exchange is of another server
    pub marks_passed : ((x : Exchange) → slice_get xs n ≡ Some x → ¬ (x.server ≡ server))
        → AreMarksUpto of xs server (n + 1) marks
    marks_passed other = record {
      each = are.each;
      all = λ number x below at same. ⊎_elim
          (λ less. are.all number x less at same)
          (λ here. absurd (other x (subst (λ (k : ℕ). slice_get xs k ≡ Some x) here at) same))
          (lt_next_cases number n below);
    }

    -- or of this one
    module _ (one : Numbered) (number_is : one.number ≡ n) (is : IsMarkOf of xs server one) where
      own : (number : ℕ) (x : Exchange) → number ≡ n → slice_get xs number ≡ Some x → one ≡ numbered of number x
      own number x here at =
          let there : one.number ≡ number = number_is ∙ sym here in
          let same : is.exchange ≡ x =
          same_Some is.exchange x (sym is.stands ∙ ap (slice_get xs) there ∙ at) in
          ap₂ (λ (m : Mark) (k : ℕ). numbered (λ y. m) k x) (is.mark ∙ ap of same) there

      pub marks_more : AreMarksUpto of xs server (n + 1) (marks ++ one ∷ [])
      marks_more = record {
        each = All-push (IsMarkOf of xs server) marks one are.each is;
        all = λ number x below at same. ⊎_elim
            (λ less. Contains-append_left marks (one ∷ []) (numbered of number x) (are.all number x less at same))
            (λ here. subst (Contains (marks ++ one ∷ [])) (own number x here at) (Contains-push marks one))
            (lt_next_cases number n below);
      }

    pub marks_permuted : (sorted : List Numbered) → IsPermutation marks sorted
        → AreMarksUpto of xs server n sorted
    marks_permuted sorted moved = record {
      each = All-permutation (IsMarkOf of xs server) marks sorted moved are.each;
      all = λ number x below at same.
          Contains-permutation marks sorted (numbered of number x) moved (are.all number x below at same);
    }

  pub no_marks : AreMarksUpto of xs server 0 []
  no_marks = record {
    each = All-nil (IsMarkOf of xs server);
    all = λ number x below at same. absurd (omega arith);
  }

  pub marks_all : (n : ℕ) (marks : List Numbered) → AreMarksUpto of xs server n marks → length xs ≤ n
      → AreMarksUpto of xs server (length xs) marks
  marks_all n marks are past = record {
    each = are.each;
    all = λ number x below at same. are.all number x (omega arith) at same;
  }

  pub none_marked : (marks : List Numbered) → AreMarksUpto of xs server (length xs) marks → length marks ≡ 0
      → HasNone xs server
  none_marked marks are none number x at same =
      let found = are.all number x (slice_get_within xs number x at) at same in
      absurd (omega (arith, found.1))

  -- the mark of each exchange is at some place
  pub mark_at : (marks : List Numbered) → AreMarksUpto of xs server (length xs) marks
      → (number : ℕ) (x : Exchange) → slice_get xs number ≡ Some x → x.server ≡ server
      → (k : ℕ) × (slice_get marks k ≡ Some (numbered of number x))
  mark_at marks are number x at same =
      let found = are.all number x (slice_get_within xs number x at) at same in
      (found.0, slice_get-get_or marks found.0 (numbered of number x) found.1 ∙ ap Some found.2)

-- ---- the tables

any_front : {X : Type 0} (P : X → Type 0) (ys : List X) (y : X) → Any P ys → Any P (ys ++ y ∷ [])
any_front P ys y some =
    let kept = Contains-append_left ys (y ∷ []) some.1 (some.0, some.2, some.3) in
    (kept.0, some.1, kept.1, kept.2, some.4)

module _ (claim : ClaimData) (xs : List Exchange) where
  -- those of the servers below a number
  pub record AreTablesUpto (count : ℕ) (tables : List Table) : Type 0 where
    pub few : length tables ≤ count
    pub each : All (IsTableOf claim xs) tables
    pub has : (number : ℕ) (x : Exchange) → x.server < count → slice_get xs number ≡ Some x
        → Any (λ table. table.server ≡ x.server) tables
    pub below : All (λ table. table.server < count) tables
    pub rising : AllPairs (λ a b. a.server < b.server) tables

  pub no_tables : AreTablesUpto 0 []
  no_tables = record {
    few = omega arith;
    each = All-nil (IsTableOf claim xs);
    has = λ number x below at. absurd (omega arith);
    below = All-nil (λ table. table.server < 0);
    rising = λ i j d less within. absurd (omega arith);
  }

  module _ (n : ℕ) (tables : List Table) (are : AreTablesUpto n tables) where
    -- a server that has no exchange
    pub tables_passed : HasNone xs n → AreTablesUpto (n + 1) tables
    tables_passed none = record {
      few = omega (arith, are.few);
      each = are.each;
      has = λ number x below at. ⊎_elim
          (λ less. are.has number x less at)
          (λ here. absurd (none number x at here))
          (lt_next_cases x.server n below);
      below = λ k d within. omega (arith, are.below k d within);
      rising = are.rising;
    }

    -- one that has some
    pub tables_more : (table : Table) → IsTableOf claim xs table → table.server ≡ n
        → AreTablesUpto (n + 1) (tables ++ table ∷ [])
    tables_more table is of = record {
      few = omega (arith, are.few, length-append tables (table ∷ []));
      each = All-push (IsTableOf claim xs) tables table are.each is;
      has = λ number x below at. ⊎_elim
          (λ less. any_front (λ t. t.server ≡ x.server) tables table (are.has number x less at))
          (λ here. Any-push (λ t. t.server ≡ x.server) tables table (of ∙ sym here))
          (lt_next_cases x.server n below);
      below = All-push (λ t. t.server < n + 1) tables table (λ k d within. omega (arith, are.below k d within))
          (omega (arith, of));
      rising = all_pairs_push (λ a b. a.server < b.server) tables table are.rising
          (λ k d within. omega (arith, of, are.below k d within));
    }

  pub are_tables : (count servers : ℕ) (tables : List Table) → AreTablesUpto count tables → servers ≤ count
      → All (IsLawful servers) xs → AreTablesOf claim xs tables
  are_tables count servers tables are past lawful = record {
    each = are.each;
    has = λ number x at.
        let own = All-slice_get (IsLawful servers) xs number x lawful at in
        are.has number x (omega (arith, own.listed)) at;
    rising = are.rising;
  }

-- ---- what one says

module _ (ppb : ℕ) (stretch : Stretch) where
  low_end : (mark : Mark) → end_over ppb (billion - ppb) (billion + ppb) stretch mark ≡ low_over ppb stretch mark
  unfolding widening rise
  low_end mark = refl

  turned_sum : (e m : ℤ) → neg_ℤ (neg_ℤ e -ℤ m) ≡ e +ℤ m
  turned_sum e m = omega (arith, ints)

  high_end : (reading : ℤ) (x : Exchange)
      → neg_ℤ (end_over ppb (billion + ppb) (billion - ppb) stretch (turned_high reading x))
      ≡ high_over ppb stretch (high_mark reading x)
  unfolding widening rise
  high_end reading x = turned_sum (high_mark reading x).error _

turned_le : (a b : ℤ) → a ≤ℤ b → neg_ℤ b ≤ℤ neg_ℤ a
turned_le a b le = omega (arith, ints)

abbrev with_ends : ℕ → ℤ → ℤ → Part
with_ends s l h = record { server = s; interval = record { lo = l; hi = h } }

module _ (claim : ClaimData) (xs : List Exchange) (table : Table) (is : IsTableOf claim xs table) (stretch : Stretch)
    (low high : End)
    (lowest : IsHighestOver claim.drift_ppb (billion - claim.drift_ppb) (billion + claim.drift_ppb) is.lows.marks
    stretch low)
    (highest : IsHighestOver claim.drift_ppb (billion + claim.drift_ppb) (billion - claim.drift_ppb) is.highs.marks
    stretch high)
    (part : Part) (server : part.server ≡ table.server) (lo : part.interval.lo ≡ low.error)
    (hi : part.interval.hi ≡ neg_ℤ high.error)
  where
    low_own : IsMarkOf (low_mark claim.reading) xs table.server lowest.one
    low_own = All-slice_get (IsMarkOf (low_mark claim.reading) xs table.server) is.lows.marks lowest.index lowest.one
        is.lows.are.each lowest.stands

    high_own : IsMarkOf (turned_high claim.reading) xs table.server highest.one
    high_own = All-slice_get (IsMarkOf (turned_high claim.reading) xs table.server) is.highs.marks highest.index
        highest.one is.highs.are.each highest.stands

    lo_is : low_over claim.drift_ppb stretch (low_mark claim.reading low_own.exchange) ≡ part.interval.lo
    lo_is =
        sym (low_end claim.drift_ppb stretch (low_mark claim.reading low_own.exchange))
        ∙ ap (end_over claim.drift_ppb (billion - claim.drift_ppb) (billion + claim.drift_ppb) stretch)
        (sym low_own.mark)
        ∙ sym lowest.error ∙ sym lo

    hi_is : high_over claim.drift_ppb stretch (high_mark claim.reading high_own.exchange) ≡ part.interval.hi
    hi_is =
        sym (high_end claim.drift_ppb stretch claim.reading high_own.exchange)
        ∙ ap (λ (m : Mark). neg_ℤ
        (end_over claim.drift_ppb (billion + claim.drift_ppb) (billion - claim.drift_ppb) stretch m))
        (sym high_own.mark)
        ∙ ap neg_ℤ (sym highest.error) ∙ sym hi

    same_part : part_of claim stretch low_own.exchange high_own.exchange ≡ part
    same_part =
        ap₂ (λ (s : ℕ) (l : ℤ). with_ends s l
        (high_over claim.drift_ppb stretch (high_mark claim.reading high_own.exchange)))
        (low_own.of_server ∙ sym server) lo_is
        ∙ ap (with_ends part.server part.interval.lo) hi_is

    pub is_all_said : IsAllSaid claim xs stretch (low.number, high.number) part
    is_all_said = record {
      low = low_own.exchange;
      high = high_own.exchange;
      low_stands = ap (slice_get xs) lowest.number ∙ low_own.stands;
      high_stands = ap (slice_get xs) highest.number ∙ high_own.stands;
      one_server = low_own.of_server ∙ sym high_own.of_server;
      is = same_part;
      whole = record {
        low = λ number x at same.
            let there = mark_at (low_mark claim.reading) xs table.server is.lows.marks is.lows.are number x at
            (same ∙ server) in
            subst (λ (z : ℤ). z ≤ℤ part.interval.lo) (low_end claim.drift_ppb stretch (low_mark claim.reading x))
            (subst (λ (z : ℤ). end_over claim.drift_ppb (billion - claim.drift_ppb) (billion + claim.drift_ppb) stretch
            (low_mark claim.reading x) ≤ℤ z) (sym lo)
            (lowest.none_higher there.0 (numbered (low_mark claim.reading) number x) there.1));
        high = λ number x at same.
            let there = mark_at (turned_high claim.reading) xs table.server is.highs.marks is.highs.are number x at
            (same ∙ server) in
            subst (λ (z : ℤ). part.interval.hi ≤ℤ z) (high_end claim.drift_ppb stretch claim.reading x)
            (subst (λ (z : ℤ). z ≤ℤ neg_ℤ (end_over claim.drift_ppb (billion + claim.drift_ppb)
            (billion - claim.drift_ppb) stretch (turned_high claim.reading x))) (sym hi)
            (turned_le _ high.error
            (highest.none_higher there.0 (numbered (turned_high claim.reading) number x) there.1)));
      };
    }

pub said_stays : (claim : ClaimData) (xs : List Exchange) (out : ℕ → Bool) (stretch : Stretch) (table : Table)
    (found : Option (Part × (ℕ × ℕ))) → out (slice_index claim.groups table.server) ≡ false
    → MatchOption found ⊥ (λ said. IsAllSaid claim xs stretch said.1 said.0)
    → IsSaidWithout claim xs out stretch table found
said_stays claim xs out stretch table None stays none = absurd none
said_stays claim xs out stretch table (Some said) stays all = (stays, all)

-- ---- what they say one after another

module _ (claim : ClaimData) (xs : List Exchange) (out : ℕ → Bool) (stretch : Stretch) (tables : List Table)
    (are : AreTablesOf claim xs tables) where
  pub record AreSaidUpto (count : ℕ) (entries : List (ℕ × ℕ)) (parts : List Part) : Type 0 where
    pub in_step : AreInStep claim xs out stretch entries parts
    pub whole : All (IsWhole claim xs stretch) parts
    pub each : (k : ℕ) (table : Table) → k < count → slice_get tables k ≡ Some table
        → out (slice_index claim.groups table.server) ≡ false → Any (λ part. part.server ≡ table.server) parts
    pub of_tables : (j : ℕ) (part : Part) → slice_get parts j ≡ Some part
        → (k : ℕ) × (table : Table) × (k < count) × (slice_get tables k ≡ Some table)
        × (part.server ≡ table.server)
    pub rising : AllPairs (λ a b. a.server < b.server) parts

  pub none_said : AreSaidUpto 0 [] []
  none_said = record {
    in_step = λ k entry part at_entry at_part. absurd cc;
    whole = All-nil (IsWhole claim xs stretch);
    each = λ k table below at stays. absurd (omega arith);
    of_tables = λ j part at. absurd cc;
    rising = λ i j d less within. absurd (omega arith);
  }

  module _ (n : ℕ) (entries : List (ℕ × ℕ)) (parts : List Part) (same : length entries ≡ length parts)
      (so_far : AreSaidUpto n entries parts) (table : Table) (here : slice_get tables n ≡ Some table) where
    later : (j : ℕ) (part : Part) → slice_get parts j ≡ Some part
        → (k : ℕ) × (t : Table) × (k < n + 1) × (slice_get tables k ≡ Some t) × (part.server ≡ t.server)
    later j part at =
        let of = so_far.of_tables j part at in
        (of.0, of.1, omega (arith, of.2), of.3, of.4)

    -- a server of a group that is left out
    pub said_passed : out (slice_index claim.groups table.server) ≡ true → AreSaidUpto (n + 1) entries parts
    said_passed left = record {
      in_step = so_far.in_step;
      whole = so_far.whole;
      each = λ k t below at stays. ⊎_elim
          (λ less. so_far.each k t less at stays)
          (λ there. absurd (true≢false (sym left
          ∙ ap (λ (u : Table). out (slice_index claim.groups u.server)) (own k t there at) ∙ stays)))
          (lt_next_cases k n below);
      of_tables = later;
      rising = so_far.rising;
    }
      where
        own : (k : ℕ) (t : Table) → k ≡ n → slice_get tables k ≡ Some t → table ≡ t
        own k t there at = same_Some table t (sym here ∙ ap (slice_get tables) (sym there) ∙ at)

    -- one of another
    module _ (entry : ℕ × ℕ) (part : Part) (stays : out (slice_index claim.groups table.server) ≡ false)
        (all : IsAllSaid claim xs stretch entry part) (server : part.server ≡ table.server) where
      is_said : IsSaid claim xs out stretch entry part
      is_said = record {
        low = all.low;
        high = all.high;
        low_stands = all.low_stands;
        high_stands = all.high_stands;
        one_server = all.one_server;
        stays = ap (λ (s : ℕ). out (slice_index claim.groups s)) (ap (λ (p : Part). p.server) all.is ∙ server) ∙ stays;
        is = all.is;
      }

      next_in_step : AreInStep claim xs out stretch (entries ++ entry ∷ []) (parts ++ part ∷ [])
      next_in_step k e p at_e at_p = ⊎_elim
          (λ old_e. ⊎_elim
          (λ old_p. so_far.in_step k e p old_e.1 old_p.1)
          (λ new_p. absurd (omega (arith, old_e.0, new_p.0)))
          (pushed_at parts part k p at_p))
          (λ new_e. ⊎_elim
          (λ old_p. absurd (omega (arith, new_e.0, old_p.0)))
          (λ new_p. subst (λ (q : Part). IsSaid claim xs out stretch e q) new_p.1
          (subst (λ (f : ℕ × ℕ). IsSaid claim xs out stretch f part) new_e.1 is_said))
          (pushed_at parts part k p at_p))
          (pushed_at entries entry k e at_e)

      behind : (k : ℕ) (d : Part) → k < length parts → (get_or parts k d).server < part.server
      behind k d within =
          let of = so_far.of_tables k (get_or parts k d) (slice_get-get_or parts k d within) in
          let below = slice_get_within tables n table here in
          let order = are.rising of.0 n table of.2 below in
          let first = ap (λ (t : Table). t.server) (get_or_from_slice_get tables of.0 of.1 table of.3) in
          let second = ap (λ (t : Table). t.server) (get_or_from_slice_get tables n table table here) in
          omega (arith, order, first, second, of.4, server)

      pub said_more : AreSaidUpto (n + 1) (entries ++ entry ∷ []) (parts ++ part ∷ [])
      said_more = record {
        in_step = next_in_step;
        whole = All-push (IsWhole claim xs stretch) parts part so_far.whole all.whole;
        each = λ k t below at left. ⊎_elim
            (λ less. any_front (λ p. p.server ≡ t.server) parts part (so_far.each k t less at left))
            (λ there. Any-push (λ p. p.server ≡ t.server) parts part
            (server ∙ ap (λ (u : Table). u.server)
            (same_Some table t (sym here ∙ ap (slice_get tables) (sym there) ∙ at))))
            (lt_next_cases k n below);
        of_tables = each_pushed (λ j p. (k : ℕ) × (t : Table) × (k < n + 1) × (slice_get tables k ≡ Some t)
            × (p.server ≡ t.server)) parts part later
            (n, table, omega arith, here, server);
        rising = all_pairs_push (λ a b. a.server < b.server) parts part so_far.rising behind;
      }

  module _ (count : ℕ) (entries : List (ℕ × ℕ)) (parts : List Part) (past : length tables ≤ count)
      (same : length entries ≡ length parts) (so_far : AreSaidUpto count entries parts)
      (listed : All (λ part. part.server < length claim.groups) parts) where
    pub all_said : AreWhole claim xs out stretch parts
    all_said = record {
      said = λ k d below.
          let entry = slice_get-below entries k (omega (arith, same)) in
          (entry.0, so_far.in_step k entry.0 (get_or parts k d) entry.1 (slice_get-get_or parts k d below));
      whole = so_far.whole;
      each = λ number x at stays.
          let some = are.has number x at in
          let there = slice_get-get_or tables some.0 some.1 some.2 ∙ ap Some some.3 in
          let found = so_far.each some.0 some.1 (omega (arith, some.2)) there
          (ap (λ (s : ℕ). out (slice_index claim.groups s)) some.4 ∙ stays) in
          (found.0, found.1, found.2, found.3, found.4 ∙ some.4);
      listed = listed;
      rising = so_far.rising;
    }
