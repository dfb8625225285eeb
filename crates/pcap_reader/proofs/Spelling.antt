-- Numbers, and the bytes that spell them.
use Rattle.pcap_reader.proofs.Common.{◌≡◌, ℕ, ◌+◌, ◌*◌, ◌/◌, ◌%◌, ◌^◌, ◌<◌, ◌≤◌, List, [], ◌∷◌, ◌++◌, length, take, refl, arith, Endian, Big, Little, IsBytes, byte_at-lt, number_in, spelled}
use Rattle.byteorder.specs.Numbers.{big_number-reads_back, little_number-reads_back, length-bytes_high_first, length-bytes_low_first, big_from-lt, little_from-lt}

-- the bytes of a number have that number in them
pub number_in-spelled : (order : Endian) (n x : ℕ) (rest : List ℕ) → x < 256 ^ n →
    number_in order n (spelled order n x ++ rest) ≡ x
number_in-spelled Big n x rest h = big_number-reads_back n x rest h
number_in-spelled Little n x rest h = little_number-reads_back n x rest h

pub length-spelled : (order : Endian) (n x : ℕ) → length (spelled order n x) ≡ n
length-spelled Big n x = length-bytes_high_first n x
length-spelled Little n x = length-bytes_low_first 0 n x

-- no number in n bytes reaches 256 ^ n
pub number_in-lt : (order : Endian) (n : ℕ) (bytes : List ℕ) → IsBytes bytes → number_in order n bytes < 256 ^ n
number_in-lt Big n bytes h = big_from-lt 0 n bytes (byte_at-lt bytes h)
number_in-lt Little n bytes h = little_from-lt 0 n bytes (byte_at-lt bytes h)

-- the digits of a number to the base 256
digit_1_of_2 : (x a b : ℕ) → a < 256 → b < 256 → x ≡ a * 256 + b → x / 256 % 256 ≡ a
digit_1_of_2 x a b ha hb h = omega arith

digit_0_of_2 : (x a b : ℕ) → a < 256 → b < 256 → x ≡ a * 256 + b → x % 256 ≡ b
digit_0_of_2 x a b ha hb h = omega arith

digit_3 : (x a b c d : ℕ) → a < 256 → b < 256 → c < 256 → d < 256 → x ≡ a * 16777216 + b * 65536 + c * 256 + d →
    x / 16777216 % 256 ≡ a
digit_3 x a b c d ha hb hc hd h = omega arith

digit_2 : (x a b c d : ℕ) → a < 256 → b < 256 → c < 256 → d < 256 → x ≡ a * 16777216 + b * 65536 + c * 256 + d →
    x / 65536 % 256 ≡ b
digit_2 x a b c d ha hb hc hd h = omega arith

digit_1 : (x a b c d : ℕ) → a < 256 → b < 256 → c < 256 → d < 256 → x ≡ a * 16777216 + b * 65536 + c * 256 + d →
    x / 256 % 256 ≡ c
digit_1 x a b c d ha hb hc hd h = omega arith

digit_0 : (x a b c d : ℕ) → a < 256 → b < 256 → c < 256 → d < 256 → x ≡ a * 16777216 + b * 65536 + c * 256 + d →
    x % 256 ≡ d
digit_0 x a b c d ha hb hc hd h = omega arith

big_2 : (x a b : ℕ) → a < 256 → b < 256 → x ≡ a * 256 + b → spelled Big 2 x ≡ a ∷ b ∷ []
big_2 x a b ha hb h = rw (digit_1_of_2 x a b ha hb h, digit_0_of_2 x a b ha hb h) refl

little_2 : (x a b : ℕ) → a < 256 → b < 256 → x ≡ b * 256 + a → spelled Little 2 x ≡ a ∷ b ∷ []
little_2 x a b ha hb h = rw (digit_1_of_2 x b a hb ha h, digit_0_of_2 x b a hb ha h) refl

big_4 : (x a b c d : ℕ) → a < 256 → b < 256 → c < 256 → d < 256 → x ≡ a * 16777216 + b * 65536 + c * 256 + d →
    spelled Big 4 x ≡ a ∷ b ∷ c ∷ d ∷ []
big_4 x a b c d ha hb hc hd h = grind (arith, digit_3, digit_2, digit_1, digit_0)

little_4 : (x a b c d : ℕ) → a < 256 → b < 256 → c < 256 → d < 256 → x ≡ d * 16777216 + c * 65536 + b * 256 + a →
    spelled Little 4 x ≡ a ∷ b ∷ c ∷ d ∷ []
little_4 x a b c d ha hb hc hd h = grind (arith, digit_3, digit_2, digit_1, digit_0)

-- two bytes are those of the number in them
pub spelled-number_in_2 : (order : Endian) (bytes : List ℕ) → IsBytes bytes → 2 ≤ length bytes →
    spelled order 2 (number_in order 2 bytes) ≡ take 2 bytes
spelled-number_in_2 order [] h long = absurd (omega arith)
spelled-number_in_2 order (a ∷ []) h long = absurd (omega arith)
spelled-number_in_2 Big (a ∷ b ∷ rest) h long =
    let at = byte_at-lt (a ∷ b ∷ rest) h in
    big_2 (number_in Big 2 (a ∷ b ∷ rest)) a b (at 0) (at 1) (omega arith)
spelled-number_in_2 Little (a ∷ b ∷ rest) h long =
    let at = byte_at-lt (a ∷ b ∷ rest) h in
    little_2 (number_in Little 2 (a ∷ b ∷ rest)) a b (at 0) (at 1) (omega arith)

-- four bytes are those of the number in them
pub spelled-number_in_4 : (order : Endian) (bytes : List ℕ) → IsBytes bytes → 4 ≤ length bytes →
    spelled order 4 (number_in order 4 bytes) ≡ take 4 bytes
spelled-number_in_4 order [] h long = absurd (omega arith)
spelled-number_in_4 order (a ∷ []) h long = absurd (omega arith)
spelled-number_in_4 order (a ∷ b ∷ []) h long = absurd (omega arith)
spelled-number_in_4 order (a ∷ b ∷ c ∷ []) h long = absurd (omega arith)
spelled-number_in_4 Big (a ∷ b ∷ c ∷ d ∷ rest) h long =
    let at = byte_at-lt (a ∷ b ∷ c ∷ d ∷ rest) h in
    big_4 (number_in Big 4 (a ∷ b ∷ c ∷ d ∷ rest)) a b c d (at 0) (at 1) (at 2) (at 3) (omega arith)
spelled-number_in_4 Little (a ∷ b ∷ c ∷ d ∷ rest) h long =
    let at = byte_at-lt (a ∷ b ∷ c ∷ d ∷ rest) h in
    little_4 (number_in Little 4 (a ∷ b ∷ c ∷ d ∷ rest)) a b c d (at 0) (at 1) (at 2) (at 3) (omega arith)
