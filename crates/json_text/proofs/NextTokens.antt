-- What comes next, token by token.
use Rattle.std.proofs.lemmas.Bool.Decides.{nat_tests}
use Rattle.std.proofs.lemmas.Int.{ints}
use Rattle.json_text.proofs.Common.{◌≡◌, Bool, ℕ, zero, suc, ◌-◌, ◌<◌, ◌≤◌, List, [], ◌∷◌, length, Option, Some, None, option_map, option_and_then, refl, sym, ap, ◌∙◌, arith, Parse, parse_map, after_end_array, read_key, items_step, members_step, items, members, value, tokens, Token, left, Takes, skip_value-shorter, items_end, items_more, items_fail, members_end, members_no_key, members_more, value_is, value-begin_array, value-begin_object, read_key-shorter, left_some, left-parse_map, Data, Num, unsigned, negative, float, null, boolean, number, string, array, object, no_items, item, Members, no_members, put, as_u64, of_json, of_items, of_members, number_of, converted, read, max_depth, next_value, next_items, next_members, rest_after, IsOther}
use Rattle.json.specs.Json as json

-- ---- how much is enough to read the elements that are left plays no part

module _ (p : Parse json.Json) (takes : Takes p) where
  items_enough_step : (m n : ℕ) (ts : List Token) (o : Option (json.Json × List Token)) → p ts ≡ o →
      ((r : List Token) → length r < length ts → items p m r ≡ items p n r) →
      option_and_then (λ q. parse_map (json.item q.0) (items p m q.1)) o
      ≡ option_and_then (λ q. parse_map (json.item q.0) (items p n q.1)) o
  items_enough_step m n ts None is rest = refl
  items_enough_step m n ts (Some q) is rest = grind (arith, ints, nat_tests, item, left)

  items_enough_at : (m n : ℕ) (ts : List Token) (o : Option (List Token)) → after_end_array ts ≡ o →
      ((r : List Token) → length r < length ts → items p m r ≡ items p n r) →
      items_step p (items p m) ts o ≡ items_step p (items p n) ts o
  items_enough_at m n ts (Some r) is rest = refl
  items_enough_at m n ts None is rest = items_enough_step m n ts (p ts) refl rest

  none_of_none : (o : Option (json.Json × List Token)) → p [] ≡ o → o ≡ None
  none_of_none None is = refl
  none_of_none (Some q) is = let never : ⊥ = omega (arith, takes [] q.1 (ap left is)) in absurd never

  items_of_none : (n : ℕ) (ts : List Token) → length ts ≤ 0 → items p n ts ≡ None
  items_of_none n [] none = items_fail p n [] refl (none_of_none (p []) refl)
  items_of_none n (t ∷ ts) none = let never : ⊥ = omega arith in absurd never

  members_of_none : (n : ℕ) (ts : List Token) → length ts ≤ 0 → members p n ts ≡ None
  members_of_none n [] none = members_no_key p n [] refl
  members_of_none n (t ∷ ts) none = let never : ⊥ = omega arith in absurd never

  items_enough : (m n : ℕ) (ts : List Token) → length ts ≤ m → length ts ≤ n → items p m ts ≡ items p n ts
  unfolding items
  items_enough zero n ts a b = items_of_none zero ts a ∙ sym (items_of_none n ts a)
  items_enough (suc m) zero ts a b = items_of_none (suc m) ts b ∙ sym (items_of_none zero ts b)
  items_enough (suc m) (suc n) ts a b =
      items_enough_at m n ts (after_end_array ts) refl (λ r less. items_enough m n r (omega arith) (omega arith))

  members_enough_step : (m n : ℕ) (k : List ℕ) (ts : List Token) (o : Option (json.Json × List Token)) → p ts ≡ o →
      ((r : List Token) → length r < length ts → members p m r ≡ members p n r) →
      option_and_then (λ q. parse_map (json.member k q.0) (members p m q.1)) o
      ≡ option_and_then (λ q. parse_map (json.member k q.0) (members p n q.1)) o
  members_enough_step m n k ts None is rest = refl
  members_enough_step m n k ts (Some q) is rest = grind (arith, ints, nat_tests, left)

  members_enough_at : (m n : ℕ) (ts : List Token) (o : Option (Option (List ℕ) × List Token)) → read_key ts ≡ o →
      ((r : List Token) → length r < length ts → members p m r ≡ members p n r) →
      option_and_then (λ q. members_step p (members p m) q.0 q.1) o
      ≡ option_and_then (λ q. members_step p (members p n) q.0 q.1) o
  members_enough_at m n ts (Some (Some k, s)) is rest =
      let less = read_key-shorter ts (Some k) s is in
      members_enough_step m n k s (p s) refl (λ r shorter. rest r (omega arith))
  members_enough_at m n ts _ is rest = refl

  members_enough : (m n : ℕ) (ts : List Token) → length ts ≤ m → length ts ≤ n → members p m ts ≡ members p n ts
  unfolding members
  members_enough zero n ts a b = members_of_none zero ts a ∙ sym (members_of_none n ts a)
  members_enough (suc m) zero ts a b = members_of_none (suc m) ts b ∙ sym (members_of_none zero ts b)
  members_enough (suc m) (suc n) ts a b =
      members_enough_at m n ts (read_key ts) refl (λ r less. members_enough m n r (omega arith) (omega arith))

-- ---- what is converted

abbrev pub pick : {A : Type 0} → A → Option A → A
pick d None = d
pick d (Some a) = a

module _ {A B : Type 0} (f : A → Option B) where
  converted_pair : (a : A) (r s : List Token) (o : Option B) (b : B) →
      option_map {U = B × List Token} (λ y. (y, r)) o ≡ Some (b, s) → (r ≡ s) × (o ≡ Some b)
  converted_pair a r s None b is = absurd (cc)
  converted_pair a r s (Some y) b is = grind (arith, ints, nat_tests, pick)

  converted_some : (o : Option (A × List Token)) (b : B) (r : List Token) → converted f o ≡ Some (b, r) →
      (a : A) × (o ≡ Some (a, r)) × (f a ≡ Some b)
  converted_some None b r is = absurd (cc)
  converted_some (Some p) b r is = grind (arith, ints, nat_tests, converted_pair)

  not_converted : (r : List Token) (o : Option B) → option_map {U = B × List Token} (λ y. (y, r)) o ≡ None → o ≡ None
  not_converted r None is = refl
  not_converted r (Some y) is = absurd (cc)

converted_twice : {A B : Type 0} (g : A → B) (r : List Token) (o : Option A) →
    option_map (λ b. (b, r)) (option_map g o) ≡ parse_map g (option_map (λ a. (a, r)) o)
converted_twice g r None = refl
converted_twice g r (Some a) = refl

converted-array : (o : Option (json.Items × List Token)) →
    converted of_json (parse_map json.array o) ≡ parse_map array (converted of_items o)
converted-array None = refl
converted-array (Some p) = converted_twice array p.1 (of_items p.0)

converted-object : (o : Option (json.Members × List Token)) →
    converted of_json (parse_map json.object o) ≡ parse_map object (converted (λ ms. of_members ms no_members) o)
converted-object None = refl
converted-object (Some p) = converted_twice object p.1 (of_members p.0 no_members)

-- ---- a number, by what is known of it

pub unsigned_known : (o : Option Num) (n : ℕ) → option_map as_u64 o ≡ Some (Some n) → o ≡ Some (unsigned n)
unsigned_known None n is = absurd (cc)
unsigned_known (Some (unsigned m)) n is = ap (λ q. Some (unsigned (pick m (pick None q)))) is
unsigned_known (Some (negative z)) n is = absurd (cc)
unsigned_known (Some (float x)) n is = absurd (cc)

pub other_known : (o : Option Num) → option_map as_u64 o ≡ Some None →
    (m : Num) × (o ≡ Some m) × IsOther (number m)
other_known None is = absurd (cc)
other_known (Some (unsigned m)) is = absurd (cc)
other_known (Some (negative z)) is =
    (negative z, refl, record { no_number = refl; no_array = refl; no_object = refl })
other_known (Some (float x)) is = (float x, refl, record { no_number = refl; no_array = refl; no_object = refl })

pub none_known : (o : Option Num) → option_map as_u64 o ≡ None → o ≡ None
none_known None is = refl
none_known (Some m) is = absurd (cc)

-- ---- a value, by how it begins

pub next_none : (depth : ℕ) → next_value depth [] ≡ None
unfolding next_value
next_none depth = ap (converted of_json) (value_is depth [])

module _ (depth : ℕ) (ts : List Token) where
  pub next_end_object : next_value depth (Token.end_object ∷ ts) ≡ None
  unfolding next_value
  next_end_object = ap (converted of_json) (value_is depth (Token.end_object ∷ ts))

  pub next_end_array : next_value depth (Token.end_array ∷ ts) ≡ None
  unfolding next_value
  next_end_array = ap (converted of_json) (value_is depth (Token.end_array ∷ ts))

  pub next_key : (s : List ℕ) → next_value depth (Token.key s ∷ ts) ≡ None
  unfolding next_value
  next_key s = ap (converted of_json) (value_is depth (Token.key s ∷ ts))

  pub next_bad : next_value depth (Token.bad ∷ ts) ≡ None
  unfolding next_value
  next_bad = ap (converted of_json) (value_is depth (Token.bad ∷ ts))

  pub next_string : (s : List ℕ) → next_value depth (Token.string s ∷ ts) ≡ Some (string s, ts)
  unfolding next_value
  next_string s = ap (converted of_json) (value_is depth (Token.string s ∷ ts))

  pub next_boolean : (b : Bool) → next_value depth (Token.boolean b ∷ ts) ≡ Some (boolean b, ts)
  unfolding next_value
  next_boolean b = ap (converted of_json) (value_is depth (Token.boolean b ∷ ts))

  pub next_null : next_value depth (Token.null ∷ ts) ≡ Some (null, ts)
  unfolding next_value
  next_null = ap (converted of_json) (value_is depth (Token.null ∷ ts))

  pub next_number : (s : List ℕ) (n : Num) → number_of s ≡ Some n →
      next_value depth (Token.number s ∷ ts) ≡ Some (number n, ts)
  unfolding next_value
  next_number s n is = ap (converted of_json) (value_is depth (Token.number s ∷ ts)) ∙ rw is

  pub next_number-none : (s : List ℕ) → number_of s ≡ None → next_value depth (Token.number s ∷ ts) ≡ None
  unfolding next_value
  next_number-none s is = ap (converted of_json) (value_is depth (Token.number s ∷ ts)) ∙ rw is

  pub next_array : 0 < depth →
      next_value depth (Token.begin_array ∷ ts) ≡ parse_map array (next_items (depth - 1) ts)
  unfolding next_value next_items
  next_array some =
      ap (converted of_json) (value-begin_array depth ts some)
      ∙ converted-array (items (value (depth - 1)) (length ts) ts)

  pub next_object : 0 < depth →
      next_value depth (Token.begin_object ∷ ts) ≡ parse_map object (next_members (depth - 1) no_members ts)
  unfolding next_value next_members
  next_object some =
      ap (converted of_json) (value-begin_object depth ts some)
      ∙ converted-object (members (value (depth - 1)) (length ts) ts)

  pub next_array-deep : depth ≡ 0 → next_value depth (Token.begin_array ∷ ts) ≡ None
  unfolding next_value value
  next_array-deep none = ap (λ d. converted of_json (value d (Token.begin_array ∷ ts))) none

  pub next_object-deep : depth ≡ 0 → next_value depth (Token.begin_object ∷ ts) ≡ None
  unfolding next_value value
  next_object-deep none = ap (λ d. converted of_json (value d (Token.begin_object ∷ ts))) none

-- ---- one thing after another

-- a value takes a token
pub value-shorter : (depth : ℕ) (ts r : List Token) (v : Data) → next_value depth ts ≡ Some (v, r) →
    length r < length ts
unfolding next_value
value-shorter depth ts r v is =
    let read = converted_some of_json (value depth ts) v r is in
    skip_value-shorter depth ts r (ap left read.1)

with_item : (j : json.Json) (d : Data) → of_json j ≡ Some d → (o : Option (json.Items × List Token)) →
    converted of_items (parse_map (json.item j) o) ≡ parse_map (item d) (converted of_items o)
with_item j d is None = refl
with_item j d is (Some p) = rw is (converted_twice (item d) p.1 (of_items p.0))

without_item : (j : json.Json) → of_json j ≡ None → (o : Option (json.Items × List Token)) →
    converted of_items (parse_map (json.item j) o) ≡ None
without_item j is None = refl
without_item j is (Some p) = rw is

with_member : (k : List ℕ) (j : json.Json) (d : Data) (old : Members) → of_json j ≡ Some d →
    (o : Option (json.Members × List Token)) →
    converted (λ ms. of_members ms old) (parse_map (json.member k j) o)
    ≡ converted (λ ms. of_members ms (put k d old)) o
with_member k j d old is None = refl
with_member k j d old is (Some p) = rw is

without_member : (k : List ℕ) (j : json.Json) (old : Members) → of_json j ≡ None →
    (o : Option (json.Members × List Token)) →
    converted (λ ms. of_members ms old) (parse_map (json.member k j) o) ≡ None
without_member k j old is None = refl
without_member k j old is (Some p) = rw is

module _ (p : Parse json.Json) where
  no_item : (more : Parse json.Items) (o : Option (json.Json × List Token)) → converted of_json o ≡ None →
      converted of_items (option_and_then (λ q. parse_map (json.item q.0) (more q.1)) o) ≡ None
  no_item more None is = refl
  no_item more (Some q) is = without_item q.0 (not_converted of_json q.1 (of_json q.0) is) (more q.1)

  no_items_at : (n : ℕ) (ts : List Token) → after_end_array ts ≡ None → converted of_json (p ts) ≡ None →
      converted of_items (items p n ts) ≡ None
  unfolding items
  no_items_at zero ts going is = refl
  no_items_at (suc n) ts going is = grind (arith, ints, nat_tests, items, no_item)

  no_member : (old : Members) (k : List ℕ) (more : Parse json.Members) (o : Option (json.Json × List Token)) →
      converted of_json o ≡ None →
      converted (λ ms. of_members ms old) (option_and_then (λ q. parse_map (json.member k q.0) (more q.1)) o) ≡ None
  no_member old k more None is = refl
  no_member old k more (Some q) is = grind (arith, ints, nat_tests, without_member, not_converted)

  no_members_at : (old : Members) (n : ℕ) (k : List ℕ) (ts s : List Token) → read_key ts ≡ Some (Some k, s) →
      converted of_json (p s) ≡ None → converted (λ ms. of_members ms old) (members p n ts) ≡ None
  unfolding members
  no_members_at old zero k ts s key is = refl
  no_members_at old (suc n) k ts s key is = rw key (no_member old k (members p n) (p s) is)

module _ (depth : ℕ) (ts : List Token) where
  pub items_over : (r : List Token) → after_end_array ts ≡ Some r → next_items depth ts ≡ Some (no_items, r)
  unfolding next_items
  items_over r is = ap (converted of_items) (items_end (value depth) (length ts) ts r (omega arith) is)

  pub item_refused : after_end_array ts ≡ None → next_value depth ts ≡ None → next_items depth ts ≡ None
  unfolding next_items next_value
  item_refused going is = no_items_at (value depth) (length ts) ts going is

  pub item_read : (r : List Token) (v : Data) → after_end_array ts ≡ None → next_value depth ts ≡ Some (v, r) →
      next_items depth ts ≡ parse_map (item v) (next_items depth r)
  unfolding next_items next_value
  item_read r v going is =
      let read = converted_some of_json (value depth ts) v r is in
      let less = skip_value-shorter depth ts r (ap left read.1) in
      ap (converted of_items) (items_more (value depth) (length ts) ts r read.0 (omega arith) going read.1)
      ∙ with_item read.0 v read.2 (items (value depth) (length ts - 1) r)
      ∙ ap (λ o. parse_map (item v) (converted of_items o))
      (items_enough (value depth) (skip_value-shorter depth) (length ts - 1) (length r) r (omega arith) (omega arith))

  pub item_passed : (r : List Token) → after_end_array ts ≡ None → rest_after (next_value depth ts) ≡ Some r →
      rest_after (next_items depth ts) ≡ rest_after (next_items depth r)
  item_passed r going is =
      let read = left_some (next_value depth ts) r is in
      ap rest_after (item_read r read.0 going read.1) ∙ left-parse_map (item read.0) (next_items depth r)

module _ (depth : ℕ) (found : Members) (ts : List Token) where
  pub members_over : (r : List Token) → read_key ts ≡ Some (None, r) → next_members depth found ts ≡ Some (found, r)
  unfolding next_members
  members_over r is =
      ap (converted (λ ms. of_members ms found)) (members_end (value depth) (length ts) ts r (omega arith) is)

  pub key_refused : read_key ts ≡ None → next_members depth found ts ≡ None
  unfolding next_members
  key_refused is = ap (converted (λ ms. of_members ms found)) (members_no_key (value depth) (length ts) ts is)

  pub member_refused : (k : List ℕ) (s : List Token) → read_key ts ≡ Some (Some k, s) → next_value depth s ≡ None →
      next_members depth found ts ≡ None
  unfolding next_members next_value
  member_refused k s key is = no_members_at (value depth) found (length ts) k ts s key is

  pub member_read : (k : List ℕ) (s r : List Token) (v : Data) → read_key ts ≡ Some (Some k, s) →
      next_value depth s ≡ Some (v, r) → next_members depth found ts ≡ next_members depth (put k v found) r
  unfolding next_members next_value
  member_read k s r v key is =
      let read = converted_some of_json (value depth s) v r is in
      let first = read_key-shorter ts (Some k) s key in
      let less = skip_value-shorter depth s r (ap left read.1) in
      ap (converted (λ ms. of_members ms found))
      (members_more (value depth) (length ts) k ts s r read.0 (omega arith) key read.1)
      ∙ with_member k read.0 v found read.2 (members (value depth) (length ts - 1) r)
      ∙ ap (converted (λ ms. of_members ms (put k v found)))
      (members_enough (value depth) (skip_value-shorter depth) (length ts - 1) (length r) r (omega arith) (omega arith))

-- ---- the whole text

pub whole_read : (text : List ℕ) (v : Data) → next_value max_depth (tokens text) ≡ Some (v, []) → read text ≡ Some v
unfolding next_value
whole_read text v is =
    let found = converted_some of_json (value max_depth (tokens text)) v [] is in
    ap (λ o. option_and_then of_json (option_and_then (λ p. json.if_last p.0 p.1) o)) found.1 ∙ found.2

pub whole_and_more : (text : List ℕ) (v : Data) (t : Token) (r : List Token) →
    next_value max_depth (tokens text) ≡ Some (v, t ∷ r) → read text ≡ None
unfolding next_value
whole_and_more text v t r is =
    ap (λ o. option_and_then of_json (option_and_then (λ p. json.if_last p.0 p.1) o))
    (converted_some of_json (value max_depth (tokens text)) v (t ∷ r) is).1

refused_whole : (o : Option (json.Json × List Token)) → converted of_json o ≡ None →
    option_and_then of_json (option_and_then (λ p. json.if_last p.0 p.1) o) ≡ None
refused_whole (Some (j, [])) is = not_converted of_json [] (of_json j) is
refused_whole _ is = refl

pub whole_refused : (text : List ℕ) → next_value max_depth (tokens text) ≡ None → read text ≡ None
unfolding next_value
whole_refused text is = refused_whole (value max_depth (tokens text)) is
