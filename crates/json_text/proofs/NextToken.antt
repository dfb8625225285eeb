-- What comes next, under what is made of it.
use Rattle.std.proofs.lemmas.Bool.Decides.{nat_tests}
use Rattle.std.proofs.lemmas.Int.{ints}
use Rattle.json_text.proofs.Common.{◌≡◌, ℕ, ◌<◌, List, length, Option, Some, None, refl, sym, ap, ◌∙◌, parse_map, after_end_array, Token, left_some, Data, Items, no_items, item, next_value, next_items, rest_after, arith}
use Rattle.json_text.proofs.NextTokens.{pick, items_over, item_refused, item_read, value-shorter}

module _ {A B : Type 0} (f : A → B) where
  pub mapped_some : (o : Option (A × List Token)) (b : B) (r : List Token) → parse_map f o ≡ Some (b, r) →
      (a : A) × (f a ≡ b) × (o ≡ Some (a, r))
  mapped_some None b r is = absurd (cc)
  mapped_some (Some p) b r is = grind (arith, ints, nat_tests, pick)

  pub mapped_none : (o : Option (A × List Token)) → parse_map f o ≡ None → o ≡ None
  mapped_none None is = refl
  mapped_none (Some p) is = absurd (cc)

  pub mapped_twice : {C : Type 0} (g : B → C) (o : Option (A × List Token)) →
      parse_map g (parse_map f o) ≡ parse_map (λ a. g (f a)) o
  mapped_twice g None = refl
  mapped_twice g (Some p) = refl

pub mapped_same : {A B : Type 0} (f g : A → B) → ((a : A) → f a ≡ g a) → (o : Option (A × List Token)) →
    parse_map f o ≡ parse_map g o
mapped_same f g same None = refl
mapped_same f g same (Some p) = ap (λ b. Some (b, p.1)) (same p.0)

-- a value takes a token, whatever is made of it
pub mapped-shorter : {A : Type 0} (f : Data → A) (depth : ℕ) (ts r : List Token) (a : A) →
    parse_map f (next_value depth ts) ≡ Some (a, r) → length r < length ts
mapped-shorter f depth ts r a is =
    let (v, same, read) = mapped_some f (next_value depth ts) a r is in value-shorter depth ts r v read

-- ---- elements of an array

module _ {B : Type 0} (m : Items → B) (depth : ℕ) (ts : List Token) where
  pub array_ends : (r : List Token) → after_end_array ts ≡ Some r →
      parse_map m (next_items depth ts) ≡ Some (m no_items, r)
  array_ends r over = ap (parse_map m) (items_over depth ts r over)

  pub element_refused : {A : Type 0} (f : Data → A) → after_end_array ts ≡ None →
      parse_map f (next_value depth ts) ≡ None → parse_map m (next_items depth ts) ≡ None
  element_refused f going is =
      ap (parse_map m) (item_refused depth ts going (mapped_none f (next_value depth ts) is))

  pub element_read : {A : Type 0} (f : Data → A) (a : A) (r : List Token) → after_end_array ts ≡ None →
      parse_map f (next_value depth ts) ≡ Some (a, r) →
      (v : Data) × (f v ≡ a)
      × (parse_map m (next_items depth ts) ≡ parse_map (λ rest. m (item v rest)) (next_items depth r))
  element_read f a r going is =
      let (v, same, read) = mapped_some f (next_value depth ts) a r is in (
        v,
        same,
        ap (parse_map m) (item_read depth ts r v going read) ∙ mapped_twice (item v) m (next_items depth r),
      )

  -- an array that goes on has an element
  pub goes_on : (r : List Token) → after_end_array ts ≡ None → rest_after (next_items depth ts) ≡ Some r →
      (v : Data) × (rest : Items) × (parse_map m (next_items depth ts) ≡ Some (m (item v rest), r))
  goes_on r going is =
      let found = left_some (next_items depth ts) r is in
      at (next_value depth ts) refl found.0 found.1
    where
      at : (o : Option (Data × List Token)) → next_value depth ts ≡ o → (items : Items) →
          next_items depth ts ≡ Some (items, r) →
          (v : Data) × (rest : Items) × (parse_map m (next_items depth ts) ≡ Some (m (item v rest), r))
      at None none items found = absurd (let never = item_refused depth ts going none in cc)
      at (Some (v, s)) some items found =
          let (rest, same, more) = mapped_some (item v) (next_items depth s) items r
          (sym (item_read depth ts s v going some) ∙ found) in
          (v, rest, ap (parse_map m) found ∙ ap (λ ds. Some (m ds, r)) (sym same))
