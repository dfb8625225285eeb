-- A pair of sample numbers, read an element at a time.
use Rattle.certificate.proofs.Common.{◌≡◌, ℕ, List, Option, Some, None, option_map, option_and_then, ap, ap₂, ◌∙◌, parse_map, after_end_array, Token, array_ends, element_refused, element_read, goes_on, next_value, next_items, rest_after, Data, item, sample_of, pair_of}

-- The array goes on after what was read, and its reader stands where it stood.
abbrev pub GoesOn : List Token → List Token → Type 0
GoesOn before after = (after_end_array before ≡ None) × (after ≡ before)

-- the sample that comes next
abbrev SampleAt : ℕ → List Token → Option ℕ → List Token → Type 0
SampleAt depth ts sample rest = parse_map sample_of (next_value depth ts) ≡ Some (sample, rest)

module _ (depth : ℕ) (ts t ts' : List Token) (low : Option ℕ) (going : GoesOn ts t)
    (first : SampleAt depth t low ts') where
  first_read : (v : Data) × (sample_of v ≡ low)
      × (parse_map pair_of (next_items depth ts) ≡ parse_map (λ rest. pair_of (item v rest)) (next_items depth ts'))
  first_read = element_read pair_of depth ts sample_of low ts' going.0 (rw (← going.1) first)

  pub one_alone : (r : List Token) → after_end_array ts' ≡ Some r →
      parse_map pair_of (next_items depth ts) ≡ Some (None, r)
  one_alone r over =
      let (v, same, more) = first_read in
      more ∙ array_ends (λ rest. pair_of (item v rest)) depth ts' r over

  module _ (t' : List Token) (going' : GoesOn ts' t') where
    pub high_refused : parse_map sample_of (next_value depth t') ≡ None → parse_map pair_of (next_items depth ts) ≡ None
    high_refused is =
        let (v, same, more) = first_read in
        more ∙ element_refused (λ rest. pair_of (item v rest)) depth ts' sample_of going'.0 (rw (← going'.1) is)

    module _ (ts'' : List Token) (high : Option ℕ) (second : SampleAt depth t' high ts'') where
      both_read : (v : Data) × (w : Data) × (sample_of v ≡ low) × (sample_of w ≡ high)
          × (parse_map pair_of (next_items depth ts)
          ≡ parse_map (λ rest. pair_of (item v (item w rest))) (next_items depth ts''))
      both_read =
          let (v, v_is, one) = first_read in
          let (w, w_is, two) = element_read (λ rest. pair_of (item v rest)) depth ts' sample_of high ts'' going'.0
          (rw (← going'.1) second) in
          (v, w, v_is, w_is, one ∙ two)

      pub pair_read : (r : List Token) → after_end_array ts'' ≡ Some r →
          parse_map pair_of (next_items depth ts)
          ≡ Some (option_and_then (λ a. option_map (λ b. (a, b)) high) low, r)
      pair_read r over =
          let (v, w, v_is, w_is, read) = both_read in
          read ∙ array_ends (λ rest. pair_of (item v (item w rest))) depth ts'' r over
          ∙ ap₂ (λ l h. Some (option_and_then (λ a. option_map (λ b. (a, b)) h) l, r)) v_is w_is

      module _ (t'' : List Token) (going'' : GoesOn ts'' t'') where
        pub third_refused : next_items depth t'' ≡ None → parse_map pair_of (next_items depth ts) ≡ None
        third_refused is =
            let (v, w, v_is, w_is, read) = both_read in
            let none : next_items depth ts'' ≡ None = rw (← going''.1) is in
            read ∙ ap (parse_map (λ rest. pair_of (item v (item w rest)))) none

        pub three : (r : List Token) → rest_after (next_items depth t'') ≡ Some r →
            parse_map pair_of (next_items depth ts) ≡ Some (None, r)
        three r is =
            let (v, w, v_is, w_is, read) = both_read in
            let (x, rest, more) = goes_on (λ rest. pair_of (item v (item w rest))) depth ts'' r going''.0
            (rw (← going''.1) is) in
            read ∙ more
