-- A table whose bytes are those of a function of their places.
use Rattle.line_writer.proofs.Common.{◌≡◌, ℕ, zero, suc, ◌+◌, ◌<◌, Bool, true, ◌&&◌, T, eqb, List, [], ◌∷◌, length, get_or, arith, eqb→eq, and_l, and_r}

-- whether bytes are those of a function from a place on
abbrev pub agrees : (ℕ → ℕ) → ℕ → List ℕ → Bool
agrees byte i [] = true
agrees byte i (x ∷ xs) = eqb x (byte i) && agrees byte (i + 1) xs

pub agrees_at : (byte : ℕ → ℕ) (i : ℕ) (xs : List ℕ) (k j : ℕ) → T (agrees byte i xs) → k < length xs → j ≡ i + k →
    get_or xs k 0 ≡ byte j
agrees_at byte i [] k j t h at = absurd (omega arith)
agrees_at byte i (x ∷ xs) zero j t h at = let e : j ≡ i = omega arith in rw e (eqb→eq _ _ (and_l _ _ t))
agrees_at byte i (x ∷ xs) (suc k) j t h at = agrees_at byte (i + 1) xs k j (and_r _ _ t) (omega arith) (omega arith)
