-- What a claim that was read says about its text, and that a text says one claim at most.
use Rattle.audit.proofs.Common.{◌≡◌, ℕ, suc, ◌*◌, ◌<◌, ◌≤◌, ℤ, true, ◌↔◌, List, [], ◌∷◌, length, map, codes, Option, Some, None, Result, Ok, refl, sym, ap, ◌∙◌, subst, arith, slice_get, nat_tests, AllZip, option_and_then, option_map, IsDotted, nanoseconds_per_second, ticks_down, ticks_up, IsFloor, IsCeiling, floor_of, ceiling_of, ticks_per_second, IsTimeAt, pos, Data, number, string, array, Items, no_items, item, Num, unsigned, get, as_array, as_str, as_u64, items_of, address_of, addresses_of, are_different, ClaimData, NamedData, named_of, is_in_range, claim_of, IsTime, time_of, IsClaimText, numbers_value, parsed}
use Rattle.audit.proofs.RecordFrames.{mapped, passed}
use Rattle.json_text.proofs.Steps.{after_by, asked_by, given_by}
use Rattle.json_text.specs.Member.{items_at, members_among, text_at, unsigned_at, unsigned_of}
use Rattle.claim_file.specs.Fields.{FieldsData, absent_or, claim_names, all_of, fields_of, number_lists_of, numbers_of, texts_of}
use Rattle.claim_file.specs.Group.{IsInGroup, groups_of}

-- ---- members of a kind

string_is : (d : Data) (text : List ℕ) → as_str d ≡ Some text → d ≡ string text
string_is d text e = grind (arith)

whole_is : (num : Num) (n : ℕ) → as_u64 num ≡ Some n → num ≡ unsigned n
whole_is num n e = grind (arith)

number_is : (d : Data) (n : ℕ) → unsigned_of d ≡ Some n → d ≡ number (unsigned n)
number_is d n e = grind (arith, whole_is)

-- values of a kind
module _ {A : Type 0} (kind : Data → Option A) (make : A → Data)
    (is : (d : Data) (a : A) → kind d ≡ Some a → d ≡ make a) where
  -- a member, if it is there
  member_is : (o : Option Data) (a : A) → option_and_then kind o ≡ Some a → o ≡ Some (make a)
  member_is None a e = cc
  member_is (Some d) a e = ap Some (is d a e)

  -- the elements of an array
  items_are : (items : Items) (xs : List A) → all_of kind items ≡ Some xs → items ≡ items_of (map make xs)
  items_are no_items xs e = cc
  items_are (item d rest) xs e =
      let (first, is_first, after) = passed (λ x. option_map (λ others. x ∷ others) (all_of kind rest)) (kind d) xs e in
      let (others, are_others, same) = mapped (λ l. first ∷ l) (all_of kind rest) xs after in
      rw (← same) (cc (is d first is_first, items_are rest others are_others))

  -- an array, as the value of a member
  list_is : (d : Data) (xs : List A) → option_and_then (all_of kind) (as_array d) ≡ Some xs
      → d ≡ array (items_of (map make xs))
  list_is d xs e = grind (arith, items_are)

-- an array of texts, with the member looked up first
texts_are : (o : Option Data) (texts : List (List ℕ))
    → option_and_then texts_of (option_and_then as_array o) ≡ Some texts
    → o ≡ Some (array (items_of (map string texts)))
texts_are o texts e = grind (arith, string_is, list_is as_str string string_is)

-- groups, which may be absent
groups_are : (o : Option Data) (listed : Option (List (List ℕ))) → absent_or number_lists_of o ≡ Some listed
    → o ≡ option_map (λ groups. array (items_of (map numbers_value groups))) listed
groups_are None listed e = cc
groups_are (Some d) listed e =
    let (groups, found, same) = mapped Some (number_lists_of d) listed e in
    rw (← same) (ap Some (list_is numbers_of numbers_value (list_is unsigned_of (λ n. number (unsigned n)) number_is)
    d groups found))

-- ---- all steps of a reading

ok_is : {A E : Type 0} (a b : A) (r : Result A E) → r ≡ Ok a → r ≡ Ok b → a ≡ b
ok_is a b r first second = cc

-- a claim in range has a server
some_server : (f : FieldsData) (n : NamedData) → is_in_range f n ≡ true → 1 ≤ length n.servers
some_server f n e = grind (arith, nat_tests)

-- ---- addresses

-- by the laws of the layers below
module _ (times : (text : List ℕ) (second : ℕ) → (time_of text ≡ Some second) ↔ IsTime text second)
    (addresses : (text address : List ℕ) → (address_of text ≡ Some address) ↔ IsDotted text address)
    (for_each : (n : ℕ) (listed : Option (List (List ℕ))) (groups : List ℕ) → 1 ≤ n
    → groups_of n listed ≡ Some groups → length groups ≡ n)
    (grouped_by : (n : ℕ) (listed : Option (List (List ℕ))) (groups : List ℕ) → groups_of n listed ≡ Some groups
    → (server group : ℕ) → (slice_get groups server ≡ Some group) ↔ IsInGroup n listed server group)
    (down : (n d : ℕ) → 0 < d → IsFloor n d (floor_of n d)) (up : (n d : ℕ) → 0 < d → IsCeiling n d (ceiling_of n d))
  where
    dotted : (texts : List (List ℕ)) (list : List (List ℕ)) → addresses_of texts ≡ Some list
        → AllZip IsDotted texts list
    dotted [] list e = let same : [] ≡ list = cc in subst (AllZip IsDotted []) same tt
    dotted (text ∷ texts) list e =
        let (first, is_first, after) = passed (λ x. option_map (λ others. x ∷ others) (addresses_of texts))
        (address_of text) list e in
        let (others, are_others, same) = mapped (λ l. first ∷ l) (addresses_of texts) list after in
        subst (AllZip IsDotted (text ∷ texts)) same ((addresses text first).0 is_first, dotted texts others are_others)

    -- ---- the claim

    time_at : (value : Data) (name text : List ℕ) (second : ℕ) → text_at name value ≡ Some text
        → time_of text ≡ Some second → IsTimeAt value name (pos (second * ticks_per_second))
    time_at value name text second found is = record {
      text = text;
      unix_second = second;
      stands = member_is as_str string string_is (get name value) text found;
      is_time = (times text second).0 is;
      in_ticks = refl;
    }

    pub read : (text : List ℕ) (claim : ClaimData) → claim_of text ≡ Ok claim → IsClaimText text claim
    unfolding ticks_down ticks_up
    read text claim e =
        let some : 0 < nanoseconds_per_second = omega arith in
        let (value, json, a) = given_by _ (parsed text) _ e in
        let (f, fields, b) = after_by (fields_of value) _ a in
        let (members, named, a1) = given_by _ (members_among claim_names value) _ fields in
        let (client_text, client, a2) = given_by _ (text_at (codes "client") value) _ a1 in
        let (server_texts, servers, a3) = given_by _ (option_and_then texts_of (items_at (codes "servers") value)) _
        a2 in
        let (false_max, most_false, a4) = given_by _ (unsigned_at (codes "false_max") value) _ a3 in
        let (begin, begins, a5) = given_by _ (text_at (codes "from") value) _ a4 in
        let (end, ends, a6) = given_by _ (text_at (codes "to") value) _ a5 in
        let (bound_ns, bound, a7) = given_by _ (unsigned_at (codes "bound_ns") value) _ a6 in
        let (drift_ppb, drift, a8) = given_by _ (unsigned_at (codes "drift_ppb") value) _ a7 in
        let (reading_ns, reading, a9) = given_by _ (unsigned_at (codes "reading_ns") value) _ a8 in
        let (listed, groups_listed, a10) = given_by _ (absent_or number_lists_of (get (codes "groups") value)) _ a9 in
        let f_is = ok_is _ f _ refl a10 in
        let (n, named_is, d) = after_by (named_of f) _ b in
        let (client_address, client_is, b1) = given_by _ (address_of f.client) _ named_is in
        let (addresses_list, servers_are, b2) = given_by _ (addresses_of f.servers) _ b1 in
        let (first, first_is, b3) = given_by _ (time_of f.begin) _ b2 in
        let (last, last_is, b4) = given_by _ (time_of f.end) _ b3 in
        let n_is = ok_is _ n _ refl b4 in
        let (ranges, g) = asked_by _ (is_in_range f n) _ d in
        let (differ, h) = asked_by _ (are_different (n.client ∷ n.servers)) _ g in
        let (groups, grouped, made) = given_by _ (groups_of (length n.servers) f.groups) _ h in
        let whole_at : (name : List ℕ) (k : ℕ) → unsigned_at name value ≡ Some k
        → get name value ≡ Some (number (unsigned k)) =
        λ name k is. member_is unsigned_of (λ m. number (unsigned m)) number_is (get name value) k is in
        subst (IsClaimText text) (ok_is _ claim _ refl made) (record {
          value = value;
          is_json = json;
          client_text = f.client;
          client_stands = member_is as_str string string_is (get (codes "client") value) f.client
              (rw (← f_is) client);
          client = (addresses f.client n.client).0 (rw (← n_is) client_is);
          server_texts = f.servers;
          servers_stand = texts_are (get (codes "servers") value) f.servers (rw (← f_is) servers);
          servers = dotted f.servers n.servers (rw (← n_is) servers_are);
          false_max = whole_at (codes "false_max") f.false_max (rw (← f_is) most_false);
          first = time_at value (codes "from") f.begin n.first (rw (← f_is) begins) (rw (← n_is) first_is);
          last = time_at value (codes "to") f.end n.last (rw (← f_is) ends) (rw (← n_is) last_is);
          bound_ns = whole_at (codes "bound_ns") f.bound_ns (rw (← f_is) bound);
          bound = ticks_down f.bound_ns;
          bound_in_ticks = refl;
          bound_is = down (f.bound_ns * ticks_per_second) nanoseconds_per_second some;
          drift = whole_at (codes "drift_ppb") f.drift_ppb (rw (← f_is) drift);
          reading_ns = whole_at (codes "reading_ns") f.reading_ns (rw (← f_is) reading);
          reading = ticks_up f.reading_ns;
          reading_in_ticks = refl;
          reading_is = up (f.reading_ns * ticks_per_second) nanoseconds_per_second some;
          listed = f.groups;
          groups_stand = groups_are (get (codes "groups") value) f.groups (rw (← f_is) groups_listed);
          each_in_a_group = for_each (length n.servers) f.groups groups (some_server f n ranges) grouped;
          groups = grouped_by (length n.servers) f.groups groups grouped;
        })

-- ---- one claim: its members

-- arrays of one kind
items_same : {A : Type 0} (make : A → Data) → ((a b : A) → make a ≡ make b → a ≡ b) → (xs ys : List A)
    → items_of (map make xs) ≡ items_of (map make ys) → xs ≡ ys
items_same make same [] [] e = refl
items_same make same (x ∷ xs) (y ∷ ys) e = cc (same x y cc, items_same make same xs ys cc)
items_same make same xs ys e = cc

lists_same : {A : Type 0} (make : A → Data) → ((a b : A) → make a ≡ make b → a ≡ b) → (xs ys : List A)
    → array (items_of (map make xs)) ≡ array (items_of (map make ys)) → xs ≡ ys
lists_same make same xs ys e = items_same make same xs ys cc

numbers_same : (a b : List ℕ) → numbers_value a ≡ numbers_value b → a ≡ b
numbers_same a b e = lists_same (λ n. number (unsigned n)) (λ m n is. cc) a b e

-- groups, which may be absent
abbrev groups_value : List (List ℕ) → Data
groups_value groups = array (items_of (map numbers_value groups))

groups_same : (a b : Option (List (List ℕ))) → option_map groups_value a ≡ option_map groups_value b → a ≡ b
groups_same a b e = grind (arith, lists_same, numbers_value, numbers_same)

-- ---- one claim: its values

pub floor_same : (n d a b : ℕ) → IsFloor n d a → IsFloor n d b → a ≡ b
floor_same n d a b x y = grind (arith)

pub ceiling_same : (n d a b : ℕ) → IsCeiling n d a → IsCeiling n d b → a ≡ b
ceiling_same n d a b x y = grind (arith)

-- lists of one length are the same, if what stands in the first stands at the same places in the second
same_list : (a b : List ℕ) → length a ≡ length b
    → ((k x : ℕ) → slice_get a k ≡ Some x → slice_get b k ≡ Some x) → a ≡ b
same_list [] [] sized each = refl
same_list (x ∷ a) (y ∷ b) sized each =
    cc (each 0 x refl, same_list a b (omega (arith, sized)) (λ k z at. each (suc k) z at))
same_list a b sized each = absurd (omega (arith, sized))

module _ (times : (text : List ℕ) (second : ℕ) → (time_of text ≡ Some second) ↔ IsTime text second)
    (addresses : (text address : List ℕ) → (address_of text ≡ Some address) ↔ IsDotted text address) where
  dotted_same : (text a b : List ℕ) → IsDotted text a → IsDotted text b → a ≡ b
  dotted_same text a b x y = cc ((addresses text a).1 x, (addresses text b).1 y)

  all_dotted_same : (texts a b : List (List ℕ)) → AllZip IsDotted texts a → AllZip IsDotted texts b → a ≡ b
  all_dotted_same (text ∷ texts) (p ∷ a) (q ∷ b) x y =
      cc (dotted_same text p q x.0 y.0, all_dotted_same texts a b x.1 y.1)
  all_dotted_same texts a b x y = grind (arith)

  -- two claims that one value says
  module _ (text : List ℕ) (c d : ClaimData) (x : IsClaimText text c) (y : IsClaimText text d) where
    value_same : x.value ≡ y.value
    value_same = cc (x.is_json, y.is_json)

    -- the member of a name, once for both
    number_at : (name : List ℕ) (m n : ℕ) → get name x.value ≡ Some (number (unsigned m))
        → get name y.value ≡ Some (number (unsigned n)) → m ≡ n
    number_at name m n in_x in_y = cc value_same

    same_time_at : (name : List ℕ) (s t : ℤ) → IsTimeAt x.value name s → IsTimeAt y.value name t → s ≡ t
    same_time_at name s t a b =
        let text : a.text ≡ b.text = cc (value_same, a.stands, b.stands) in
        let second : a.unix_second ≡ b.unix_second =
        cc (text, (times a.text a.unix_second).1 a.is_time, (times b.text b.unix_second).1 b.is_time) in
        cc (second, a.in_ticks, b.in_ticks)

    client_same : c.client ≡ d.client
    client_same =
        let texts : x.client_text ≡ y.client_text = cc (value_same, x.client_stands, y.client_stands) in
        dotted_same y.client_text c.client d.client (rw texts at x.client) y.client

    servers_same : c.servers ≡ d.servers
    servers_same = grind (arith, lists_same, string, value_same, all_dotted_same)

    bound_ns_same : c.bound_ns ≡ d.bound_ns
    bound_ns_same = number_at (codes "bound_ns") c.bound_ns d.bound_ns x.bound_ns y.bound_ns

    bound_same : c.bound ≡ d.bound
    bound_same =
        let same = floor_same (d.bound_ns * ticks_per_second) nanoseconds_per_second x.bound y.bound
        (rw bound_ns_same at x.bound_is) y.bound_is in
        cc (same, x.bound_in_ticks, y.bound_in_ticks)

    reading_ns_same : c.reading_ns ≡ d.reading_ns
    reading_ns_same = number_at (codes "reading_ns") c.reading_ns d.reading_ns x.reading_ns y.reading_ns

    reading_same : c.reading ≡ d.reading
    reading_same =
        let same = ceiling_same (d.reading_ns * ticks_per_second) nanoseconds_per_second x.reading y.reading
        (rw reading_ns_same at x.reading_is) y.reading_is in
        cc (same, x.reading_in_ticks, y.reading_in_ticks)

    listed_same : x.listed ≡ y.listed
    listed_same = grind (arith, groups_same, get, codes, value_same)

    counts_same : length c.servers ≡ length d.servers
    counts_same = ap length servers_same

    group_same : c.groups ≡ d.groups
    group_same = same_list c.groups d.groups
        (x.each_in_a_group ∙ counts_same ∙ sym y.each_in_a_group)
        (λ server group at. (y.groups server group).1
        (rw (listed_same, counts_same) at ((x.groups server group).0 at)))

    -- a text says one claim
    pub one_claim : c ≡ d
    one_claim = λ i. record {
      client = client_same i;
      servers = servers_same i;
      groups = group_same i;
      false_max = number_at (codes "false_max") c.false_max d.false_max x.false_max y.false_max i;
      first = same_time_at (codes "from") c.first d.first x.first y.first i;
      last = same_time_at (codes "to") c.last d.last x.last y.last i;
      bound = bound_same i;
      bound_ns = bound_ns_same i;
      drift_ppb = number_at (codes "drift_ppb") c.drift_ppb d.drift_ppb x.drift y.drift i;
      reading = reading_same i;
      reading_ns = reading_ns_same i;
    }
