-- The entries of a piece, read one after another.
use Rattle.std.proofs.lemmas.Int.{ints}
use Rattle.certificate.proofs.Common.{◌≡◌, ℕ, ◌+◌, ◌≤◌, List, [], ◌∷◌, ◌++◌, Bool, false, nat_le, Option, Some, None, option_map, option_and_then, Result, Ok, Err, if◌then◌else◌, ap, ◌∙◌, arith, append-nil, append_assoc, Data, Items, no_items, item, items_len, parse_map, after_end_array, Token, mapped_same, array_ends, element_read, goes_on, next_value, next_items, rest_after, given, asked, CertificateFault, Shape, TooManyEntries, max_entries, entry_of, entries_of, nat_tests}

-- the entries that were read, unless an element was none
abbrev pub so_far : Bool → List (ℕ × ℕ) → Option (List (ℕ × ℕ))
so_far are_pairs entries = if are_pairs then Some entries else None

abbrev pub and_one : Option (List (ℕ × ℕ)) → Option (ℕ × ℕ) → Option (List (ℕ × ℕ))
and_one found entry = option_and_then (λ es. option_map (λ e. es ++ e ∷ []) entry) found

abbrev and_more : Option (List (ℕ × ℕ)) → Option (List (ℕ × ℕ)) → Option (List (ℕ × ℕ))
and_more found more = option_and_then (λ es. option_map (λ more. es ++ more) more) found

-- what is said if this many elements were read and these are left
abbrev pub entries_after : ℕ → ℕ → Option (List (ℕ × ℕ)) → Items → Result (List (ℕ × ℕ)) CertificateFault
entries_after number count found items =
    asked (TooManyEntries number) (nat_le (count + items_len items) max_entries) (
    given (Shape number) (and_more found (entries_of items)) Ok)

one_more : (found : Option (List (ℕ × ℕ))) (entry : Option (ℕ × ℕ)) (more : Option (List (ℕ × ℕ))) →
    and_more found (option_and_then (λ first. option_map (λ others. first ∷ others) more) entry)
    ≡ and_more (and_one found entry) more
one_more found entry more = grind (arith, append_assoc)

entries_next : (number count : ℕ) (found : Option (List (ℕ × ℕ))) (value : Data) (rest : Items) →
    entries_after number count found (item value rest)
    ≡ entries_after number (count + 1) (and_one found (entry_of value)) rest
entries_next number count found value rest = grind (arith, ints, nat_tests, asked, given, one_more)

nothing_more : (found : Option (List (ℕ × ℕ))) → and_more found (Some []) ≡ found
nothing_more found = grind (arith, append-nil)

entries_last : (number count : ℕ) (found : Option (List (ℕ × ℕ))) → count ≤ max_entries →
    entries_after number count found no_items ≡ given (Shape number) found Ok
entries_last number count found few = grind (arith, ints, nat_tests, nothing_more)

entries_too_many : (number count : ℕ) (found : Option (List (ℕ × ℕ))) (value : Data) (rest : Items) →
    count ≡ max_entries → entries_after number count found (item value rest) ≡ Err (TooManyEntries number)
entries_too_many number count found value rest full = grind (arith, ints, nat_tests)

-- what was pushed, in the program's words
pub pushed_one : (are_pairs : Bool) (before after : List (ℕ × ℕ)) (entry : ℕ × ℕ) → after ≡ before ++ entry ∷ [] →
    so_far are_pairs after ≡ and_one (so_far are_pairs before) (Some entry)
pushed_one are_pairs before after entry is = grind arith

pub pushed_none : (are_pairs : Bool) (before after : List (ℕ × ℕ)) →
    so_far false after ≡ and_one (so_far are_pairs before) None
pushed_none are_pairs before after = grind arith

-- ---- a turn of the reading

module _ (number count : ℕ) (found : Option (List (ℕ × ℕ))) (depth : ℕ) (ts : List Token)
    (going : after_end_array ts ≡ None) where
  pub too_many_there : (r : List Token) → count ≡ max_entries → rest_after (next_items depth ts) ≡ Some r →
      parse_map (entries_after number count found) (next_items depth ts) ≡ Some (Err (TooManyEntries number), r)
  too_many_there r full is =
      let (v, rest, read) = goes_on (entries_after number count found) depth ts r going is in
      read ∙ ap (λ e. Some (e, r)) (entries_too_many number count found v rest full)

  pub one_more_there : (entry : Option (ℕ × ℕ)) (r : List Token) →
      parse_map entry_of (next_value depth ts) ≡ Some (entry, r) →
      parse_map (entries_after number count found) (next_items depth ts)
      ≡ parse_map (entries_after number (count + 1) (and_one found entry)) (next_items depth r)
  one_more_there entry r is =
      let (v, same, more) = element_read (entries_after number count found) depth ts entry_of entry r going is in
      more ∙ mapped_same _ _ (entries_next number count found v) (next_items depth r)
      ∙ ap (λ e. parse_map (entries_after number (count + 1) (and_one found e)) (next_items depth r)) same

-- the last turn
pub none_there : (number count : ℕ) (found : Option (List (ℕ × ℕ))) (depth : ℕ) (ts r : List Token) →
    after_end_array ts ≡ Some r → count ≤ max_entries →
    parse_map (entries_after number count found) (next_items depth ts) ≡ Some (given (Shape number) found Ok, r)
none_there number count found depth ts r over few = grind (arith, ints, nat_tests, array_ends, entries_last)
