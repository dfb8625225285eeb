-- The names of an object that was read, beside those of its value.
use Rattle.json_text.proofs.Common.{◌≡◌, ◌∙◌, ℕ, List, [], ◌∷◌, Bool, ◌&&◌, ◌||◌, Some, None, if◌then◌else◌, option_and_then, map, Bor, String, Global, string_bytes, refl, sym, ap, bytes_eq, Data, as_object, members_view}
use Rattle.std.specs.List.{list_all, list_any}
use Rattle.std.specs.Map.{keys_of}
use Rattle.serde_json.specs.declared.value.Value.{Value}
use Rattle.json_text.specs.Member.{has_only, members_among}

-- the names, as they are passed
abbrev listed_names : List (Bor (List ℕ)) → List (List ℕ)
listed_names names = map (λ (name : Bor (List ℕ)). name.now) names

is_listed : (names : List (Bor (List ℕ))) (key : List ℕ) →
    list_any (λ listed. bytes_eq listed key) (listed_names names) ≡ list_any (λ listed. bytes_eq listed.now key) names
is_listed [] key = refl
is_listed (name ∷ names) key = ap (λ b. bytes_eq name.now key || b) (is_listed names key)

-- a test of the keys is the test of the names
pub has_only_keys : (names : List (Bor (List ℕ))) (entries : List (String Global × Value)) →
    has_only (listed_names names) (members_view entries)
    ≡ list_all (λ key. list_any (λ listed. bytes_eq listed.now (string_bytes key)) names) (keys_of entries)
has_only_keys names [] = refl
has_only_keys names (e ∷ es) =
    ap (λ b. b && has_only (listed_names names) (members_view es)) (is_listed names (string_bytes e.0))
    ∙ ap (λ b. list_any (λ listed. bytes_eq listed.now (string_bytes e.0)) names && b) (has_only_keys names es)

-- so it says whether the object is the one that is asked for
pub members_among-object : (names : List (Bor (List ℕ))) (entries : List (String Global × Value)) (value : Data)
    (b : Bool) →
    Some (members_view entries) ≡ as_object value →
    b ≡ list_all (λ key. list_any (λ listed. bytes_eq listed.now (string_bytes key)) names) (keys_of entries) →
    (if b then Some (members_view entries) else None) ≡ members_among (listed_names names) value
members_among-object names entries value b is test =
    ap (λ t. if t then Some (members_view entries) else None) (test ∙ sym (has_only_keys names entries))
    ∙ ap (option_and_then (λ ms. if has_only (listed_names names) ms then Some ms else None)) is
