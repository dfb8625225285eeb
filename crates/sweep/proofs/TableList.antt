-- The tables of servers, and what they give one after another.
use Rattle.sweep.proofs.Common.{◌≡◌, ℕ, ◌+◌, ◌<◌, Bool, true, false, ℤ, List, [], ◌∷◌, ◌++◌, length, map, take, get_or, Option, Some, None, refl, sym, ◌∙◌, ap, arith, cond, true≢false, slice_get, filter, filter_map, cons_option, range_with_len, append-nil, take_more, map-append, filter-append, filter_map-append, get_or_from_slice_get, slice_get-get_or, slice_get-below, slice_get_within, Sample, HasNoSample, Part, AreTablesOf, IsTableOf, best_part, best_parts, has_sample, BestTable, eq-eqb, range_with_len_more}
use Rattle.std.proofs.Common.{◌==◌}
use Rattle.std.proofs.lemmas.Bool.{ne_eqb}
use Rattle.std.proofs.lemmas.List.Folds.{list_any_at, list_any_none}
use Rattle.span_cover.proofs.BestSample.{best_of-none}

-- ---- whether a server has a sample

pub none_has : (samples : List Sample) (server : ℕ) → HasNoSample samples server → has_sample samples server ≡ false
none_has samples server none =
    list_any_none (λ sample. sample.server == server) samples
    (λ k d within. ne_eqb (get_or samples k d).server server
    (none k (get_or samples k d) (slice_get-get_or samples k d within)))

one_has : (samples : List Sample) (server i : ℕ) (s : Sample) → slice_get samples i ≡ Some s → s.server ≡ server →
    has_sample samples server ≡ true
one_has samples server i s is of =
    list_any_at (λ sample. sample.server == server) samples i s (slice_get_within samples i s is)
    (eq-eqb (get_or samples i s).server server
    (ap (λ (t : Sample). t.server) (get_or_from_slice_get samples i s s is) ∙ of))

module _ (samples : List Sample) (ppb : ℕ) (table : BestTable) (is : IsTableOf samples ppb table) where
  pub table_has : has_sample samples table.server ≡ true
  table_has =
      let first = slice_get-below is.lows.extremes 0 is.lows.some in
      let own = is.lows.are.each 0 first.0 first.1 in
      one_has samples table.server _ own.sample own.stands own.of_server

-- ---- the servers that have one, in their order

module _ (samples : List Sample) (n : ℕ) (tables : List BestTable)
    (so_far : map (λ table. table.server) tables ≡ filter (has_sample samples) (range_with_len 0 n)) where
  one_more : filter (has_sample samples) (range_with_len 0 (n + 1))
      ≡ filter (has_sample samples) (range_with_len 0 n) ++ filter (has_sample samples) (n ∷ [])
  one_more =
      ap (filter (has_sample samples)) (range_with_len_more 0 n n (omega arith))
      ∙ filter-append (has_sample samples) (range_with_len 0 n) (n ∷ [])

  -- a server without a sample
  pub servers_without : has_sample samples n ≡ false →
      map (λ table. table.server) tables ≡ filter (has_sample samples) (range_with_len 0 (n + 1))
  servers_without none = grind (arith, one_more, append-nil)

  -- a server with its table
  pub servers_more : (table : BestTable) → table.server ≡ n → has_sample samples n ≡ true →
      map (λ table. table.server) (tables ++ table ∷ []) ≡ filter (has_sample samples) (range_with_len 0 (n + 1))
  servers_more table of has = grind (arith, one_more, map-append (λ (t : BestTable). t.server) tables (table ∷ []))

-- ---- what they say

-- one more element of which h gives something
pub filter_map_more : {X Y : Type 0} (h : X → Option Y) (xs : List X) (i : ℕ) (d : X) (y : Y) (old : List Y) →
    old ≡ filter_map h (take i xs) → i < length xs → h (get_or xs i d) ≡ Some y →
    old ++ y ∷ [] ≡ filter_map h (take (i + 1) xs)
filter_map_more h xs i d y old so_far within gives =
    grind (arith, take_more xs i d within, filter_map-append h (take i xs) (get_or xs i d ∷ []))

module _ (f : ℕ → Option Part) where
  of_servers : (tables : List BestTable) →
      filter_map (λ table. f table.server) tables ≡ filter_map f (map (λ table. table.server) tables)
  of_servers [] = refl
  of_servers (table ∷ tables) = ap (cons_option (f table.server)) (of_servers tables)

  of_passed : (p : ℕ → Bool) → ((n : ℕ) → p n ≡ false → f n ≡ None) → (ns : List ℕ) →
      filter_map f (filter p ns) ≡ filter_map f ns
  of_passed p none [] = refl
  of_passed p none (n ∷ ns) = step (of_passed p none ns) (p n) refl
    where
      step : filter_map f (filter p ns) ≡ filter_map f ns → (b : Bool) → p n ≡ b →
          filter_map f (cond b (n ∷ filter p ns) (filter p ns)) ≡ cons_option (f n) (filter_map f ns)
      step rest true e = ap (cons_option (f n)) rest
      step rest false e = rest ∙ ap (λ o. cons_option o (filter_map f ns)) (sym (none n e))

pub parts_are : (samples : List Sample) (count : ℕ) (p q : ℤ) (ppb : ℕ) (tables : List BestTable) →
    AreTablesOf samples count ppb tables →
    filter_map (λ table. best_part samples p q ppb table.server) tables ≡ best_parts samples count p q ppb
parts_are samples count p q ppb tables are =
    of_servers (best_part samples p q ppb) tables
    ∙ ap (filter_map (best_part samples p q ppb)) are.servers
    ∙ of_passed (best_part samples p q ppb) (has_sample samples) none (range_with_len 0 count)
  where
    none : (n : ℕ) → has_sample samples n ≡ false → best_part samples p q ppb n ≡ None
    none n fails =
        rw (best_of-none samples n p q ppb
        (λ i s is of. true≢false (sym (one_has samples n i s is of) ∙ fails))) refl
