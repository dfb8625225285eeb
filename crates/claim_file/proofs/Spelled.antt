-- The plain spelling of a claim is read as that claim.
use Rattle.claim_file.proofs.Common.{◌≡◌, ◌≢◌, ◌∙◌, ℕ, zero, suc, pos, ◌+◌, ◌/◌, ◌%◌, ◌^◌, ◌<◌, ◌≤◌, ◌==◌, nat_lt, true, false, not, List, [], ◌∷◌, ◌++◌, length, map, Option, Some, None, Ok, IsUtf8, refl, sym, ap, subst, arith, length-append, length-range_with_len, get_or-range_with_len, All, AllPairs, codes, decimal, concat, list_any, IsDotted, bytes_eq, lt-ltb, nat_tests, bytes_eq-Decides, ints, days_in_month_bounds, serde_json_on_literals, array, string, items_of, after, given, Json, addresses_of, are_different, FieldsData, fields_of, number_lists_of, numbers_of, texts_of, group_of, groups_of, is_grouping, servers_of, times_listed, NamedData, claim_from, claim_of, claim_with, is_in_range, named_of, within_limits, IsTime, two_digits, rules}
use Rattle.std.proofs.lemmas.Bool.{eq-eqb, false_from_ne_true}
use Rattle.std.proofs.lemmas.Fmt.{IsAscii-decimal}
use Rattle.std.proofs.lemmas.Str.{IsUtf8-append, IsUtf8-from_ascii}
use Rattle.std.proofs.lemmas.List.{get_or-append-add}
use Rattle.std.proofs.lemmas.List.Folds.{list_any_none}
use Rattle.std.proofs.lemmas.List.Sums.{list_all-from_AllPass}
use Rattle.std.proofs.Math.ListN.{get_or-append}
use Rattle.serde_json.specs.Read.{max_depth}
use Rattle.json_text.proofs.Outline.{IsPlain, items_nesting, nesting, parsed_compact, plain_items, plain_number, utf8_ascii}
use Rattle.claim_file.proofs.Addresses.{address_of-IsDotted}
use Rattle.claim_file.proofs.Times.{time_of-IsTime}
use Rattle.claim_file.specs.Spelling.{AreDotted, AreGrouped, IsWithinLimits, Names, claim_text, claim_value, number_value, numbers_value}

-- ---- what the JSON value says

texts_back : (texts : List (List ℕ)) → texts_of (items_of (map string texts)) ≡ Some texts
texts_back [] = refl
texts_back (t ∷ ts) = rw (texts_back ts) refl

numbers_back : (numbers : List ℕ) → numbers_of (numbers_value numbers) ≡ Some numbers
numbers_back [] = refl
numbers_back (n ∷ ns) = rw (numbers_back ns) refl

lists_back : (lists : List (List ℕ)) → number_lists_of (array (items_of (map numbers_value lists))) ≡ Some lists
lists_back [] = refl
lists_back (l ∷ ls) = rw (numbers_back l, lists_back ls) refl

fields_with : (f : FieldsData) (groups : Option (List (List ℕ))) →
    fields_of (claim_value (record f { groups = groups })) ≡ Ok (record f { groups = groups })
unfolding serde_json_on_literals
fields_with f None = rw (texts_back f.servers) refl
fields_with f (Some listed) = rw (texts_back f.servers, lists_back listed) refl

fields_back : (f : FieldsData) → fields_of (claim_value f) ≡ Ok f
fields_back f = fields_with f f.groups

-- ---- what the members say

addresses_back : (texts addresses : List (List ℕ)) → AreDotted texts addresses → addresses_of texts ≡ Some addresses
addresses_back [] [] each = refl
addresses_back [] (a ∷ rest) each = absurd each
addresses_back (t ∷ ts) [] each = absurd each
addresses_back (t ∷ ts) (a ∷ others) each = rw (address_of-IsDotted t a each.0, addresses_back ts others each.1) refl

named_back : (f : FieldsData) (named : NamedData) → Names f named → named_of f ≡ Ok named
named_back f named is =
    rw (
      address_of-IsDotted f.client named.client is.client,
      addresses_back f.servers named.servers is.servers,
      time_of-IsTime f.begin named.first is.begin,
      time_of-IsTime f.end named.last is.end,
    ) refl

in_range : (f : FieldsData) (named : NamedData) → IsWithinLimits f named → is_in_range f named ≡ true
in_range f named is = search rules

other : (a b : List ℕ) → a ≢ b → bytes_eq a b ≡ false
other a b apart = false_from_ne_true (bytes_eq a b) (λ e. apart ((bytes_eq-Decides a b).0 e))

none_is : (x : List ℕ) (xs : List (List ℕ)) → All (λ a. a ≢ x) xs → list_any (λ o. bytes_eq o x) xs ≡ false
none_is x xs apart = list_any_none (λ o. bytes_eq o x) xs (λ k d less. other _ x (apart k d less))

differ : (xs : List (List ℕ)) → AllPairs (λ a b. a ≢ b) xs → are_different xs ≡ true
differ [] apart = refl
differ (x ∷ xs) apart =
    let first = none_is x xs (λ k d less same. apart 0 (suc k) d (omega arith) (omega arith) (sym same)) in
    let rest = differ xs (λ i j d before less. apart (suc i) (suc j) d (omega arith) (omega arith)) in
    rw (first, rest) refl

is_grouped : (n : ℕ) (listed : List (List ℕ)) → AreGrouped n (Some listed) → is_grouping n listed ≡ true
is_grouped n listed (filled, below, once) =
    let a = list_all-from_AllPass (λ group. not (length group == 0)) listed
    (λ k d less. let some = filled k d less in grind (arith, nat_tests)) in
    let b = list_all-from_AllPass (λ s. nat_lt s n) (concat listed) (λ k d less. lt-ltb _ n (below k d less)) in
    let e = list_all-from_AllPass (λ s. times_listed s (concat listed) == 1) (servers_of n)
    (λ k d less. let small : k < n = rw (length-range_with_len 0 n) at less in
    rw (get_or-range_with_len 0 n k d small) (eq-eqb _ 1 (once (0 + k) (omega arith)))) in
    rw (a, b, e) refl

groups_back : (n : ℕ) (listed : Option (List (List ℕ))) → AreGrouped n listed →
    (groups : List ℕ) × (groups_of n listed ≡ Some groups)
groups_back n None is = (servers_of n, refl)
groups_back n (Some listed) is = (map (group_of listed) (servers_of n), rw (is_grouped n listed is) refl)

-- ---- the text

-- the numbers of each list are small, if all are
front_small : (n : ℕ) (xs ys : List ℕ) → All (λ s. s < n) (xs ++ ys) → All (λ s. s < n) xs
front_small n xs ys small k d less =
    subst (λ v. v < n) (get_or-append xs ys d k less)
    (small k d (omega (arith, length-append xs ys)))

back_small : (n : ℕ) (xs ys : List ℕ) → All (λ s. s < n) (xs ++ ys) → All (λ s. s < n) ys
back_small n xs ys small k d less =
    subst (λ v. v < n) (get_or-append-add xs ys k d)
    (small (length xs + k) d (omega (arith, length-append xs ys)))

plain_numbers : (n : ℕ) (xs : List ℕ) → n < 2 ^ 64 → All (λ s. s < n) xs → IsPlain (numbers_value xs)
plain_numbers n xs fits small = plain_items number_value xs (λ k d less. plain_number _ (omega (arith, small k d less)))

plain_lists : (n : ℕ) (lists : List (List ℕ)) → n < 2 ^ 64 → All (λ s. s < n) (concat lists) →
    All (λ list. IsPlain (numbers_value list)) lists
plain_lists n [] fits small k d less = absurd (omega arith)
plain_lists n (l ∷ ls) fits small zero d less = plain_numbers n l fits (front_small n l (concat ls) small)
plain_lists n (l ∷ ls) fits small (suc k) d less =
    plain_lists n ls fits (back_small n l (concat ls) small) k d (omega arith)

-- the numbers of a claim have 64 bits
pub record AreSmall (f : FieldsData) : Type 0 where
  pub bound : f.bound_ns < 2 ^ 64
  pub drift : f.drift_ppb < 2 ^ 64
  pub few : f.false_max < 2 ^ 64
  pub reading : f.reading_ns < 2 ^ 64

-- ---- its texts are UTF-8

utf8_decimal : (n : ℕ) → n < 2 ^ 64 → IsUtf8 (decimal n)
utf8_decimal n fits = IsUtf8-from_ascii (decimal n) (IsAscii-decimal n fits)

utf8_dotted : (text address : List ℕ) → IsDotted text address → IsUtf8 text
utf8_dotted text address is =
    let dot = utf8_ascii (codes ".") refl in
    let a = utf8_decimal is.a (omega (arith, is.fit.0)) in
    let b = utf8_decimal is.b (omega (arith, is.fit.1)) in
    let e = utf8_decimal is.c (omega (arith, is.fit.2)) in
    let g = utf8_decimal is.d (omega (arith, is.fit.3)) in
    subst IsUtf8 (sym is.spelled)
    (IsUtf8-append _ _ (IsUtf8-append _ _ (IsUtf8-append _ _ (IsUtf8-append _ _ (IsUtf8-append _ _
    (IsUtf8-append _ _ a dot) b) dot) e) dot) g)

utf8_each : (texts addresses : List (List ℕ)) → AreDotted texts addresses → All (λ text. IsUtf8 text) texts
utf8_each [] [] each k d less = absurd (omega arith)
utf8_each [] (a ∷ rest) each k d less = absurd each
utf8_each (t ∷ ts) [] each k d less = absurd each
utf8_each (t ∷ ts) (a ∷ others) each zero d less = utf8_dotted t a each.0
utf8_each (t ∷ ts) (a ∷ others) each (suc k) d less = utf8_each ts others each.1 k d (omega arith)

utf8_two : (n : ℕ) → n < 100 → IsUtf8 (two_digits n)
utf8_two n small =
    let tens : nat_lt (48 + n / 10) 128 ≡ true = grind (arith, nat_tests) in
    let ones : nat_lt (48 + n % 10) 128 ≡ true = grind (arith, nat_tests) in
    utf8_ascii (two_digits n) (rw (tens, ones) refl)

utf8_time : (text : List ℕ) (second : ℕ) → IsTime text second → IsUtf8 text
utf8_time text second is =
    let year = is.date.0.1 in
    let month = is.date.1.1 in
    let day = is.date.2.1 in
    let few = (days_in_month_bounds (pos is.year) is.month).0 in
    let y = IsUtf8-append _ _ (utf8_two (is.year / 100) (omega (arith, ints, year)))
    (utf8_two (is.year % 100) (omega arith)) in
    let m = utf8_two is.month (omega arith) in
    let d = utf8_two is.day (omega (arith, few)) in
    let h = utf8_two is.hour (omega (arith, is.time_of_day.0)) in
    let n = utf8_two is.minute (omega (arith, is.time_of_day.1)) in
    let s = utf8_two is.second_of_minute (omega (arith, is.time_of_day.2)) in
    let dash = utf8_ascii (codes "-") refl in
    let colon = utf8_ascii (codes ":") refl in
    subst IsUtf8 (sym is.spelled)
    (IsUtf8-append _ _ (IsUtf8-append _ _ (IsUtf8-append _ _ (IsUtf8-append _ _ (IsUtf8-append _ _ (IsUtf8-append _ _
    (IsUtf8-append _ _ (IsUtf8-append _ _ (IsUtf8-append _ _ (IsUtf8-append _ _ (IsUtf8-append _ _ y dash) m) dash) d)
    (utf8_ascii (codes "T") refl)) h) colon) n) colon) s) (utf8_ascii (codes "Z") refl))

-- ---- it is read as the value

-- what is known of a member, and of those behind it
also : {A B C : Type 0} → A → B → C → A × B × C
also a b c = (a, b, c)

plain_with : (f : FieldsData) (named : NamedData) (n : ℕ) (groups : Option (List (List ℕ))) → Names f named →
    AreSmall f → n < 2 ^ 64 → AreGrouped n groups → IsPlain (claim_value (record f { groups = groups }))
unfolding serde_json_on_literals
plain_with f named n None is small fits grouped =
    let servers = plain_items string f.servers (utf8_each f.servers named.servers is.servers) in (
      refl,
      also refl (plain_number f.bound_ns small.bound) (also refl (utf8_dotted f.client named.client is.client)
          (also refl (plain_number f.drift_ppb small.drift) (also refl (plain_number f.false_max small.few)
          (also refl (utf8_time f.begin named.first is.begin)
          (also refl (plain_number f.reading_ns small.reading)
          (also refl servers (also refl (utf8_time f.end named.last is.end) tt))))))),
    )
plain_with f named n (Some listed) is small fits grouped =
    let servers = plain_items string f.servers (utf8_each f.servers named.servers is.servers) in
    let lists = plain_items numbers_value listed (plain_lists n listed fits grouped.1) in (
      refl,
      also refl (plain_number f.bound_ns small.bound) (also refl (utf8_dotted f.client named.client is.client)
          (also refl (plain_number f.drift_ppb small.drift) (also refl (plain_number f.false_max small.few)
          (also refl (utf8_time f.begin named.first is.begin) (also refl lists
          (also refl (plain_number f.reading_ns small.reading)
          (also refl servers (also refl (utf8_time f.end named.last is.end) tt)))))))),
    )

nesting_with : (f : FieldsData) (groups : Option (List (List ℕ))) →
    nesting (claim_value (record f { groups = groups })) ≤ max_depth
nesting_with f None = omega (arith, items_nesting string 0 (λ n. omega arith) f.servers)
nesting_with f (Some listed) =
    let lists = items_nesting numbers_value 1 (λ xs. omega (arith, items_nesting number_value 0 (λ n. omega arith) xs))
    listed in
    omega (arith, items_nesting string 0 (λ n. omega arith) f.servers, lists)

-- ---- all of it

pub claim_back : (f : FieldsData) (named : NamedData) → Names f named → IsWithinLimits f named →
    (groups : List ℕ) × (groups_of (length named.servers) f.groups ≡ Some groups)
    × (claim_of (claim_text f) ≡ Ok (claim_with f named groups))
claim_back f named is within =
    let n = length named.servers in
    let small : AreSmall f = record {
      bound = omega (arith, within.bound);
      drift = omega (arith, within.drift);
      few = omega (arith, within.few_false);
      reading = omega (arith, within.reading);
    } in
    let fits : n < 2 ^ 64 = omega (arith, within.few_servers) in
    let (groups, grouped) = groups_back n f.groups within.grouped in
    let plain = plain_with f named n f.groups is small fits within.grouped in
    let value = parsed_compact (claim_value f) plain (nesting_with f f.groups) in
    let fields = fields_back f in
    let names = named_back f named is in
    let range = in_range f named within in
    let client = none_is named.client named.servers within.client_is_no_server in
    let apart = differ named.servers within.addresses_differ in (
      groups,
      grouped,
      ap (λ o. given Json o (λ v. after (fields_of v) claim_from)) value
          ∙ ap (λ r. after r claim_from) fields
          ∙ ap (λ r. after r (within_limits f)) names
          ∙ rw (range, client, apart, grouped) refl,
    )
