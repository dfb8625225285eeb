-- Four bytes and the number that they spell.
use Rattle.std.proofs.lemmas.Int.{ints}
use Rattle.pairing.proofs.Common.{◌≡◌, ◌∙◌, ℕ, ◌<◌, List, Bool, true, false, refl, sym, ap, length, get_or, arith, ◌==◌, bytes_eq, nat_tests, be_bytes_4, bytes_eq-Decides}
use Rattle.std.specs.Int.{w32, from_be_bytes, to_be_bytes}

-- four bytes
pub record IsWord (bs : List ℕ) : Type 0 where
  pub four : length bs ≡ 4
  pub bytes : (i : ℕ) → get_or bs i 0 < 256

-- four bytes are those that their number spells
spelled : (bs : List ℕ) → IsWord bs → to_be_bytes w32 (from_be_bytes w32 bs) ≡ bs
spelled bs word = be_bytes_4 bs (from_be_bytes w32 bs) word.four word.bytes refl

-- words of one number are the same
one_word : (a b : List ℕ) → IsWord a → IsWord b → from_be_bytes w32 a ≡ from_be_bytes w32 b → a ≡ b
one_word a b of_a of_b is = sym (spelled a of_a) ∙ ap (to_be_bytes w32) is ∙ spelled b of_b

test_is : (m n : ℕ) (test : Bool) → (test ≡ true → m ≡ n) → (m ≡ n → test ≡ true) → (m == n) ≡ test
test_is m n true same back = grind (arith, nat_tests, same refl)
test_is m n false same back = grind (arith, nat_tests, back)

-- two words are the same exactly if their numbers are
pub same_words : (a b : List ℕ) → IsWord a → IsWord b →
    (from_be_bytes w32 a == from_be_bytes w32 b) ≡ bytes_eq a b
same_words a b of_a of_b = grind (arith, ints, nat_tests, test_is, bytes_eq-Decides, one_word)
