-- Which answers of the reader say what `parsed` says.
use Rattle.json_text.proofs.Common.{◌≡◌, ℕ, List, Bool, true, false, if◌then◌else◌, Some, None, refl, sym, is_utf8-from_IsUtf8, IsUtf8-from_is_utf8, IsUtf8, is_utf8, Data, read}
use Rattle.json_text.specs.Text.{parsed}

pub parsed_some : (bytes : List ℕ) (value : Data) → IsUtf8 bytes → read bytes ≡ Some value → Some value ≡ parsed bytes
parsed_some bytes value text is = rw (is_utf8-from_IsUtf8 bytes text) (sym is)

pub parsed_none : (bytes : List ℕ) → (IsUtf8 bytes → read bytes ≡ None) → None ≡ parsed bytes
parsed_none bytes none =
    none_where (is_utf8 bytes) (λ valid. none (IsUtf8-from_is_utf8 bytes valid))
  where
    none_where : (b : Bool) → (b ≡ true → read bytes ≡ None) → None ≡ (if b then read bytes else None)
    none_where true none = sym (none refl)
    none_where false none = refl
