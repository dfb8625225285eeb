-- The elements of an array, read one after another.
use Rattle.std.proofs.lemmas.Int.{ints}
use Rattle.cover_certificate.proofs.Common.{◌≡◌, ℕ, ◌+◌, ◌≤◌, List, [], ◌∷◌, ◌++◌, Bool, false, nat_le, Option, Some, None, option_map, option_and_then, Result, Ok, Err, if◌then◌else◌, ap, ◌∙◌, arith, append-nil, append_assoc, Data, Items, no_items, item, items_len, parse_map, after_end_array, Token, mapped_same, array_ends, element_read, goes_on, next_value, next_items, rest_after, given, asked, CoverFault, nat_tests, each_of}

-- the elements that were read, unless one was none
abbrev pub so_far : {X : Type 0} → Bool → List X → Option (List X)
so_far are_all elements = if are_all then Some elements else None

abbrev pub and_one : {X : Type 0} → Option (List X) → Option X → Option (List X)
and_one found element = option_and_then (λ es. option_map (λ e. es ++ e ∷ []) element) found

abbrev and_more : {X : Type 0} → Option (List X) → Option (List X) → Option (List X)
and_more found more = option_and_then (λ es. option_map (λ more. es ++ more) more) found

one_more : {X : Type 0} (found : Option (List X)) (element : Option X) (more : Option (List X)) →
    and_more found (option_and_then (λ first. option_map (λ others. first ∷ others) more) element)
    ≡ and_more (and_one found element) more
one_more found element more = grind (arith, append_assoc)

nothing_more : {X : Type 0} (found : Option (List X)) → and_more found (Some []) ≡ found
nothing_more found = grind (arith, append-nil)

-- what was pushed, in the program's words
pub pushed_one : {X : Type 0} (are_all : Bool) (before after : List X) (element : X) → after ≡ before ++ element ∷ [] →
    so_far are_all after ≡ and_one (so_far are_all before) (Some element)
pushed_one are_all before after element is = grind arith

pub pushed_none : {X : Type 0} (are_all : Bool) (before after : List X) →
    so_far false after ≡ and_one (so_far are_all before) None
pushed_none are_all before after = grind arith

module _ {X : Type 0} (many bad : CoverFault) (most : ℕ) (element_of : Data → Option X) where
  -- what is said if this many elements were read and these are left
  abbrev pub list_after : ℕ → Option (List X) → Items → Result (List X) CoverFault
  list_after count found items =
      asked many (nat_le (count + items_len items) most) (given bad (and_more found (each_of element_of items)) Ok)

  list_next : (count : ℕ) (found : Option (List X)) (value : Data) (rest : Items) →
      list_after count found (item value rest) ≡ list_after (count + 1) (and_one found (element_of value)) rest
  list_next count found value rest = grind (arith, ints, nat_tests, asked, given, one_more)

  list_last : (count : ℕ) (found : Option (List X)) → count ≤ most →
      list_after count found no_items ≡ given bad found Ok
  list_last count found few = grind (arith, ints, nat_tests, nothing_more)

  list_too_many : (count : ℕ) (found : Option (List X)) (value : Data) (rest : Items) →
      count ≡ most → list_after count found (item value rest) ≡ Err many
  list_too_many count found value rest full = grind (arith, ints, nat_tests)

  -- ---- a turn of the reading

  module _ (count : ℕ) (found : Option (List X)) (depth : ℕ) (ts : List Token) (going : after_end_array ts ≡ None) where
    pub too_many_there : (r : List Token) → count ≡ most → rest_after (next_items depth ts) ≡ Some r →
        parse_map (list_after count found) (next_items depth ts) ≡ Some (Err many, r)
    too_many_there r full is =
        let (v, rest, read) = goes_on (list_after count found) depth ts r going is in
        read ∙ ap (λ e. Some (e, r)) (list_too_many count found v rest full)

    pub one_more_there : (element : Option X) (r : List Token) →
        parse_map element_of (next_value depth ts) ≡ Some (element, r) →
        parse_map (list_after count found) (next_items depth ts)
        ≡ parse_map (list_after (count + 1) (and_one found element)) (next_items depth r)
    one_more_there element r is =
        let (v, same, more) = element_read (list_after count found) depth ts element_of element r going is in
        more ∙ mapped_same _ _ (list_next count found v) (next_items depth r)
        ∙ ap (λ e. parse_map (list_after (count + 1) (and_one found e)) (next_items depth r)) same

  -- the last turn
  pub none_there : (count : ℕ) (found : Option (List X)) (depth : ℕ) (ts r : List Token) →
      after_end_array ts ≡ Some r → count ≤ most →
      parse_map (list_after count found) (next_items depth ts) ≡ Some (given bad found Ok, r)
  none_there count found depth ts r over few = grind (arith, ints, nat_tests, array_ends, list_last)
