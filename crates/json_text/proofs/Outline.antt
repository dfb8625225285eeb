-- A JSON value whose compact text is read as that value.
use Rattle.json_text.proofs.Common.{◌≡◌, ℕ, suc, ◌<◌, ◌≤◌, ◌^◌, List, [], ◌∷◌, ◌++◌, Bool, true, false, map, Option, Some, option_and_then, append-nil, refl, sym, ap, ◌∙◌, arith, All, IsUtf8, IsUtf8-append, IsUtf8-from_ascii, is_utf8-from_IsUtf8, decimal, tokens, Token, Data, Items, Members, Num, array, boolean, item, member, no_items, no_members, null, number, object, put, string, unsigned, of_json, of_items, of_members, number_of, max_depth, items_of, outline, items_outline, members_outline, number_text, comma_if, compact_text, items_text, members_text, ⊤}
use Rattle.std.proofs.lemmas.Fmt.{IsAscii-decimal}
use Rattle.json.specs.Json as json
use Rattle.json.specs.Tree as tree
use Rattle.json.specs.Print.{ArePrintable, quoted}
use Rattle.json.proofs.Printed.Decimals.{IsNumber-decimal}
use Rattle.json.proofs.Printed.Tokens.{tokens-print}
use Rattle.json.proofs.Printed.Trees.{ArePrintable-json_tokens, value-json_tokens}
use Rattle.json.proofs.Printed.Utf8.{are_ascii, IsUtf8-are_ascii, IsUtf8-boolean, IsUtf8-quoted}
use Rattle.serde_json.proofs.Numbers.{number_of-decimal}
use Rattle.serde_json.proofs.Texts.{print-outline}
use Rattle.json_text.specs.Text.{parsed}

-- a number whose text is read as that number
pub record IsPlainNumber (n : Num) : Type 0 where
  pub reads : number_of (number_text n) ≡ Some n
  pub printed : tree.HasNumbers (outline (number n))
  pub utf8 : IsUtf8 (number_text n)

-- the members with these put in one after another
abbrev pub with_members : Members → Members → Members
with_members no_members found = found
with_members (member name value rest) found = with_members rest (put name value found)

-- its numbers are whole, its texts UTF-8, its names ASCII, and each name of an object stands once and in order
abbrev mutual
  pub IsPlain : Data → Type 0
  IsPlain (number n) = IsPlainNumber n
  IsPlain (string text) = IsUtf8 text
  IsPlain (array values) = ArePlain values
  IsPlain (object members) = (with_members members no_members ≡ members) × HasPlain members
  IsPlain _ = ⊤

  pub ArePlain : Items → Type 0
  ArePlain no_items = ⊤
  ArePlain (item value rest) = IsPlain value × ArePlain rest

  pub HasPlain : Members → Type 0
  HasPlain no_members = ⊤
  HasPlain (member name value rest) = (are_ascii name ≡ true) × IsPlain value × HasPlain rest

pub utf8_ascii : (text : List ℕ) → are_ascii text ≡ true → IsUtf8 text
utf8_ascii = IsUtf8-are_ascii

pub plain_number : (n : ℕ) → n < 2 ^ 64 → IsPlain (number (unsigned n))
plain_number n fits = record {
  reads = number_of-decimal n fits;
  printed = IsNumber-decimal n fits;
  utf8 = IsUtf8-from_ascii (decimal n) (IsAscii-decimal n fits);
}

pub plain_items : {X : Type 0} (value : X → Data) (xs : List X) → All (λ x. IsPlain (value x)) xs →
    ArePlain (items_of (map value xs))
plain_items value [] each = tt
plain_items value (x ∷ xs) each =
    (each 0 x (omega arith), plain_items value xs (λ k d less. each (suc k) d (omega arith)))

-- how deep a value's text nests
abbrev pub nesting : Data → ℕ
nesting value = tree.depth (outline value)

-- its outline says it, and its text is UTF-8
record IsOutlined (value : Data) : Type 0 where
  reads : of_json (outline value) ≡ Some value
  numbers : tree.HasNumbers (outline value)
  utf8 : IsUtf8 (compact_text value)

record AreOutlined (values : Items) : Type 0 where
  reads : of_items (items_outline values) ≡ Some values
  numbers : tree.ItemsHaveNumbers (items_outline values)
  utf8 : (later : Bool) → IsUtf8 (items_text later values)

record HasOutlined (members : Members) : Type 0 where
  reads : (found : Members) → of_members (members_outline members) found ≡ Some (with_members members found)
  numbers : tree.MembersHaveNumbers (members_outline members)
  utf8 : (later : Bool) → IsUtf8 (members_text later members)

after_comma : (later : Bool) (text : List ℕ) → IsUtf8 text → IsUtf8 (comma_if later ++ text)
after_comma true text valid = IsUtf8-append (44 ∷ []) text (utf8_ascii _ refl) valid
after_comma false text valid = valid

mutual
  outlined : (value : Data) → IsPlain value → IsOutlined value
  outlined null plain = record { reads = refl; numbers = tt; utf8 = utf8_ascii _ refl }
  outlined (boolean b) plain = record { reads = refl; numbers = tt; utf8 = IsUtf8-boolean b }
  outlined (number n) plain =
      record { reads = rw plain.reads refl; numbers = plain.printed; utf8 = plain.utf8 }
  outlined (string text) plain =
      record { reads = refl; numbers = tt; utf8 = IsUtf8-quoted text plain }
  outlined (array values) plain =
      let each = items_outlined values plain in
      record {
        reads = rw each.reads refl;
        numbers = each.numbers;
        utf8 = IsUtf8-append (91 ∷ []) _ (utf8_ascii _ refl) (each.utf8 false);
      }
  outlined (object members) plain =
      let each = members_outlined members plain.1 in
      record {
        reads = rw (each.reads no_members, plain.0) refl;
        numbers = each.numbers;
        utf8 = IsUtf8-append (123 ∷ []) _ (utf8_ascii _ refl) (each.utf8 false);
      }

  items_outlined : (values : Items) → ArePlain values → AreOutlined values
  items_outlined no_items plain =
      record { reads = refl; numbers = tt; utf8 = λ later. utf8_ascii (93 ∷ []) refl }
  items_outlined (item value values) plain =
      let here = outlined value plain.0 in
      let rest = items_outlined values plain.1 in
      record {
        reads = rw (here.reads, rest.reads) refl;
        numbers = (here.numbers, rest.numbers);
        utf8 = λ later. after_comma later _ (IsUtf8-append (compact_text value) _ here.utf8 (rest.utf8 true));
      }

  members_outlined : (members : Members) → HasPlain members → HasOutlined members
  members_outlined no_members plain =
      record { reads = λ f. refl; numbers = tt; utf8 = λ later. utf8_ascii (125 ∷ []) refl }
  members_outlined (member name value members) plain =
      let here = outlined value plain.1 in
      let rest = members_outlined members plain.2 in
      record {
        reads = λ found. rw here.reads (rest.reads (put name value found));
        numbers = (here.numbers, rest.numbers);
        utf8 = λ later. after_comma later _ (IsUtf8-append (quoted name) _
            (IsUtf8-quoted name (utf8_ascii name plain.0))
            (IsUtf8-append (58 ∷ []) _ (utf8_ascii _ refl)
            (IsUtf8-append (compact_text value) _ here.utf8 (rest.utf8 true))));
      }

pub printable : (value : Data) → IsPlain value → ArePrintable (tree.json_tokens (outline value))
printable value plain = ArePrintable-json_tokens (outline value) (outlined value plain).numbers

-- the tokens of a value are read as that value
whole : Option (json.Json × List Token) → Option Data
whole o = option_and_then of_json (option_and_then (λ p. json.if_last p.0 p.1) o)

-- a text with the tokens of the compact text is read as the value
pub parsed_tokens : (value : Data) (text : List ℕ) → IsPlain value → nesting value ≤ max_depth → IsUtf8 text →
    tokens text ≡ tokens (compact_text value) → parsed text ≡ Some value
unfolding whole
parsed_tokens value text plain shallow valid same =
    let listed : tokens text ≡ tree.json_tokens (outline value) =
    same ∙ ap tokens (sym (print-outline value)) ∙ tokens-print _ (printable value plain) in
    rw (is_utf8-from_IsUtf8 text valid)
    (ap whole (ap (json.value max_depth) (listed ∙ sym (append-nil (tree.json_tokens (outline value))))
    ∙ value-json_tokens (outline value) max_depth [] shallow) ∙ (outlined value plain).reads)

pub utf8_compact : (value : Data) → IsPlain value → IsUtf8 (compact_text value)
utf8_compact value plain = (outlined value plain).utf8

pub parsed_compact : (value : Data) → IsPlain value → nesting value ≤ max_depth →
    parsed (compact_text value) ≡ Some value
parsed_compact value plain shallow = parsed_tokens value _ plain shallow (utf8_compact value plain) refl

-- how deep elements nest that are made alike
pub items_nesting : {X : Type 0} (value : X → Data) (n : ℕ) → ((x : X) → nesting (value x) ≤ n) → (xs : List X) →
    tree.items_depth (items_outline (items_of (map value xs))) ≤ n
items_nesting value n below [] = omega arith
items_nesting value n below (x ∷ xs) = omega (arith, below x, items_nesting value n below xs)
