-- Pieces of text in the scratch array, each before those that stand there.
use Rattle.line_writer.proofs.Common.{◌≡◌, ℕ, ◌+◌, ◌-◌, ◌≤◌, List, [], ◌∷◌, ◌++◌, length, get_or, set, drop, arith, refl, ap, ◌∙◌, sym, length-set, drop-drop, drop-append-le, drop-set_at}

-- four bytes as a list
four_bytes : (bytes : List ℕ) → length bytes ≡ 4 →
    get_or bytes 0 0 ∷ get_or bytes 1 0 ∷ get_or bytes 2 0 ∷ get_or bytes 3 0 ∷ [] ≡ bytes
four_bytes [] h = absurd (omega arith)
four_bytes (a ∷ []) h = absurd (omega arith)
four_bytes (a ∷ b ∷ []) h = absurd (omega arith)
four_bytes (a ∷ b ∷ d ∷ []) h = absurd (omega arith)
four_bytes (a ∷ b ∷ d ∷ e ∷ []) h = refl
four_bytes (a ∷ b ∷ d ∷ e ∷ f ∷ xs) h = absurd (omega arith)

module _ (xs : List ℕ) (s a b d e : ℕ) (from : 4 ≤ s) (to : s ≤ length xs) where
  abbrev one : List ℕ
  one = set xs (s - 1) e

  abbrev two : List ℕ
  two = set one (s - 2) d

  abbrev three : List ℕ
  three = set two (s - 3) b

  same_two : length two ≡ length xs
  same_two = length-set one (s - 2) d ∙ length-set xs (s - 1) e

  same_three : length three ≡ length xs
  same_three = length-set two (s - 3) b ∙ same_two

  four_set : drop (s - 4) (set three (s - 4) a) ≡ a ∷ b ∷ d ∷ e ∷ drop s xs
  four_set =
      let l1 = length-set xs (s - 1) e in
      let l2 = same_two in
      let l3 = same_three in
      drop-set_at three (s - 4) (s - 4) a refl (omega arith)
      ∙ ap (λ (l : List ℕ). a ∷ l) (drop-set_at two (s - 3) (s - 4 + 1) b (omega arith) (omega arith)
      ∙ ap (λ (l : List ℕ). b ∷ l) (drop-set_at one (s - 2) (s - 3 + 1) d (omega arith) (omega arith)
      ∙ ap (λ (l : List ℕ). d ∷ l) (drop-set_at xs (s - 1) (s - 2 + 1) e (omega arith) (omega arith)
      ∙ ap (λ (k : ℕ). e ∷ drop k xs) (omega arith))))

-- the last `count` of four bytes that are written
pub last_written : (xs bytes old : List ℕ) (s count : ℕ) → drop s xs ≡ old → length xs ≡ 516 → 4 ≤ s → s ≤ 516 →
    count ≤ 4 → length bytes ≡ 4 →
    drop (s - count) (set (set (set (set xs (s - 1) (get_or bytes 3 0)) (s - 2) (get_or bytes 2 0)) (s - 3)
    (get_or bytes 1 0)) (s - 4) (get_or bytes 0 0)) ≡ drop (4 - count) bytes ++ old
last_written xs bytes old s count is all from to few four =
    let written = set (set (set (set xs (s - 1) (get_or bytes 3 0)) (s - 2) (get_or bytes 2 0)) (s - 3)
    (get_or bytes 1 0)) (s - 4) (get_or bytes 0 0) in
    let at : s - count ≡ s - 4 + (4 - count) = omega arith in
    ap (λ (k : ℕ). drop k written) at
    ∙ sym (drop-drop (4 - count) (s - 4) written)
    ∙ ap (drop (4 - count)) (four_set xs s (get_or bytes 0 0) (get_or bytes 1 0) (get_or bytes 2 0) (get_or bytes 3 0)
    from (omega arith)
    ∙ ap (λ (l : List ℕ). get_or bytes 0 0 ∷ get_or bytes 1 0 ∷ get_or bytes 2 0 ∷ get_or bytes 3 0 ∷ l) is
    ∙ ap (λ (l : List ℕ). l ++ old) (four_bytes bytes four))
    ∙ drop-append-le (4 - count) bytes old (omega arith)
