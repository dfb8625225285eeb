-- Lists joined of parts of known length.
use Rattle.pcap_reader.proofs.Common.{arith, ◌≡◌, ℕ, ◌+◌, ◌<◌, List, ◌++◌, length, take, drop, sym, ◌∙◌, append_assoc, drop-drop, take-append-drop, drop-append_seam, take-append_seam, take-add, IsBytes}
use Rattle.std.proofs.lemmas.List.Elements.{All-drop}

-- bytes stay bytes
pub bytes_after : (bytes : List ℕ) (n : ℕ) → IsBytes bytes → IsBytes (drop n bytes)
bytes_after bytes n h = All-drop (λ byte. byte < 256) n bytes h

-- the front, and what follows it
pub front : {A : Type 0} (xs part rest : List A) (n : ℕ) → xs ≡ part ++ rest → length part ≡ n → take n xs ≡ part
front xs part rest n e h = rw (← h, e) (take-append_seam part rest)

pub after : {A : Type 0} (xs part rest : List A) (n : ℕ) → xs ≡ part ++ rest → length part ≡ n → drop n xs ≡ rest
after xs part rest n e h = rw (← h, e) (drop-append_seam part rest)

-- what follows one part more
pub further : {A : Type 0} (xs part rest : List A) (m n : ℕ) → drop m xs ≡ part ++ rest → length part ≡ n →
    drop (m + n) xs ≡ rest
further xs part rest m n e h = sym (drop-drop n m xs) ∙ after (drop m xs) part rest n e h

-- four fields of a record's header, its bytes, and what follows
pub five_parts : {A : Type 0} (a b c d e rest : List A) → ((((a ++ b) ++ c) ++ d) ++ e) ++ rest
    ≡ a ++ (b ++ (c ++ (d ++ (e ++ rest))))
five_parts a b c d e rest = simp append_assoc

-- six fields of a file's header, and what follows
pub six_parts : {A : Type 0} (a b c d e f rest : List A) → (((((a ++ b) ++ c) ++ d) ++ e) ++ f) ++ rest
    ≡ a ++ (b ++ (c ++ (d ++ (e ++ (f ++ rest)))))
six_parts a b c d e f rest = simp append_assoc

-- sixteen bytes, and so many more
pub taken_16 : {A : Type 0} (xs : List A) (n : ℕ) →
    ((((take 4 xs ++ take 4 (drop 4 xs)) ++ take 4 (drop 8 xs)) ++ take 4 (drop 12 xs)) ++ take n (drop 16 xs))
    ++ drop (16 + n) xs ≡ xs
taken_16 xs n =
    rw (← take-add 4 4 xs, ← take-add 8 4 xs, ← take-add 12 4 xs, ← take-add 16 n xs) (take-append-drop (16 + n) xs)

-- twenty-four bytes
pub taken_24 : {A : Type 0} (xs : List A) →
    take 24 xs ≡ ((((take 4 xs ++ take 2 (drop 4 xs)) ++ take 2 (drop 6 xs)) ++ take 8 (drop 8 xs)) ++ take 4
    (drop 16 xs)) ++ take 4 (drop 20 xs)
taken_24 xs = grind (arith, take-add)
