-- A shown name that is read from its front.
use Rattle.sum_file.proofs.Common.{arith, ◌≡◌, ℕ, ◌==◌, false, List, [], ◌∷◌, ◌++◌, Option, Some, None, option_map, append_assoc, backslash, unescape, unescaped}

-- a byte that is shown as it is
pub unescaped-plain : (byte : ℕ) (rest : List ℕ) → (byte == backslash) ≡ false
    → unescaped (byte ∷ rest) ≡ option_map (λ name. byte ∷ name) (unescaped rest)
unescaped-plain byte [] plain = rw plain
unescaped-plain byte (next ∷ rest) plain = rw plain

-- a backslash and the byte behind it
pub unescaped-pair : (next byte : ℕ) (rest : List ℕ) → unescape next ≡ Some byte
    → unescaped (backslash ∷ next ∷ rest) ≡ option_map (λ name. byte ∷ name) (unescaped rest)
unescaped-pair next byte rest is = rw is

-- a name that is read so far, and one more byte of it
pub name_more : (whole : Option (List ℕ)) (rest : Option (List ℕ)) (name more : List ℕ) (byte : ℕ)
    → whole ≡ option_map (λ n. name ++ n) (option_map (λ n. byte ∷ n) rest) → more ≡ name ++ byte ∷ []
    → whole ≡ option_map (λ n. more ++ n) rest
name_more whole None name more byte is pushed = is
name_more whole (Some rest) name more byte is pushed = grind (arith, append_assoc)
