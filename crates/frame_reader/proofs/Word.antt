-- Bytes, and the numbers that two of them stand for.
use Rattle.std.proofs.Common.{◌≡◌, ℕ, ◌+◌, ◌*◌, ◌^◌, ◌<◌, ◌≤◌, List, ◌++◌, length, get_or, take, drop, ap, arith, inl, inr}
use Rattle.std.proofs.lemmas.Bool.{cases_lt}
use Rattle.std.proofs.lemmas.List.{get_or-drop, get_or-take, get_or_past, get_or_default, drop_more, length-take}
use Rattle.std.proofs.Math.Seq.{drop-append-add}
use Rattle.byteorder.specs.Endian.{big_bytes, big_number}
use Rattle.byte_stream.specs.Bytes.{IsBytes}
use Rattle.frame_reader.specs.Frame.{word}

-- each place reads as a byte, and as 0 past the end
abbrev pub ReadsBytes : List ℕ → Type 0
ReadsBytes xs = (i : ℕ) → get_or xs i 0 < 256

pub IsBytes-from_reads : (xs : List ℕ) → ReadsBytes xs → IsBytes xs
IsBytes-from_reads xs bytes k d inside = rw (get_or_default xs k d 0 inside) (bytes k)

pub ReadsBytes-drop : (n : ℕ) (xs : List ℕ) → ReadsBytes xs → ReadsBytes (drop n xs)
ReadsBytes-drop n xs all i = rw get_or-drop (all (n + i))

pub ReadsBytes-take : (n : ℕ) (xs : List ℕ) → ReadsBytes xs → ReadsBytes (take n xs)
ReadsBytes-take n xs all i = grind (arith, cases_lt, inl, get_or-take, inr, get_or_past, take, length-take)

-- a word by its two bytes
pub word_is : (xs : List ℕ) (i : ℕ) → word xs i ≡ 256 * get_or xs i 0 + get_or xs (i + 1) 0
unfolding word
word_is xs i = grind (arith, get_or, drop, get_or-drop)

pub word_fits : (xs : List ℕ) (i : ℕ) → ReadsBytes xs → word xs i < 2 ^ 16
word_fits xs i bytes = omega (arith, word_is xs i, bytes i, bytes (i + 1))

-- two bytes are those of the word that they stand for
pub drop-word : (xs : List ℕ) (i j : ℕ) → ReadsBytes xs → j ≡ i + 2 → j ≤ length xs
    → drop i xs ≡ big_bytes 2 (word xs i) ++ drop j xs
drop-word xs i j bytes at long = grind (arith, drop, get_or, drop_more, word, word_is)

-- the word after a list of known length
pub word-append : (xs ys : List ℕ) (n i : ℕ) → length xs ≡ n → word (xs ++ ys) (n + i) ≡ word ys i
unfolding word
word-append xs ys n i len = rw (← len) (ap (λ (t : List ℕ). big_number 2 t) (drop-append-add xs ys i))
