-- When two marks are compatible: by the lines through them.
use Rattle.std.proofs.lemmas.Bool.Decides.{nat_tests}
use Rattle.error_marks.proofs.Common.{◌≡◌, ℕ, ◌+◌, ◌-◌, ◌*◌, ◌^◌, ◌≤◌, ℤ, pos, negsuc, ◌+ℤ◌, ◌-ℤ◌, ◌*ℤ◌, ◌≤ℤ◌, ◌<ℤ◌, ◌↔◌, IsTrue, true, false, unsigned_abs, to_z, of_z, arith, ap, w128, le_z, ints, billion, falling_line, rising_line, AreCompatible, IsWithinRange, Mark, w128_keeps}
use borrow.Author.Differences.{up, down}

-- n times what is above zero, less n times what is below
times-parts : (n : ℕ) (a : ℤ) → (pos n *ℤ a) ≡ pos (n * up a) -ℤ pos (n * down a)
times-parts n (pos x) = omega (arith, ints)
times-parts n (negsuc x) = omega (arith, ints)

-- n times a difference
pub times-sub : (n : ℕ) (a b : ℤ) → (pos n *ℤ (a -ℤ b)) ≡ (pos n *ℤ a) -ℤ (pos n *ℤ b)
times-sub n a b =
    let parts : up (a -ℤ b) + down a + up b ≡ down (a -ℤ b) + up a + down b = omega (arith, ints) in
    let scaled : n * (up (a -ℤ b) + down a + up b) ≡ n * (down (a -ℤ b) + up a + down b) =
    ap (λ (x : ℕ). n * x) parts in
    rw (times-parts n (a -ℤ b), times-parts n a, times-parts n b) (omega (arith, ints))

sums : (a b c d x y : ℤ) → x ≡ a -ℤ b → y ≡ c -ℤ d → (x ≤ℤ y → (a +ℤ d) ≤ℤ (b +ℤ c))
    × ((a +ℤ d) ≤ℤ (b +ℤ c) → x ≤ℤ y)
sums a b c d x y p q = (λ h. omega (arith, ints), λ h. omega (arith, ints))

differences : (a b c d x y : ℤ) → x ≡ a -ℤ b → y ≡ c -ℤ d → (x ≤ℤ y → (a -ℤ c) ≤ℤ (b -ℤ d))
    × ((a -ℤ c) ≤ℤ (b -ℤ d) → x ≤ℤ y)
differences a b c d x y p q = (λ h. omega (arith, ints), λ h. omega (arith, ints))

pub not_both : (a b : ℤ) → a ≤ℤ b → b <ℤ a → ⊥
not_both a b p q = omega (arith, ints)

-- at a high mark's place or before it
pub falls_line : (ppb : ℕ) (low high : Mark) → low.place ≤ℤ high.place →
    (falling_line ppb low ≤ℤ falling_line ppb high) ↔ AreCompatible ppb low high
falls_line ppb low high before =
    grind (
      arith,
      ints,
      nat_tests,
      sums (pos (billion - ppb) *ℤ low.error) (pos (billion - ppb) *ℤ high.error) (pos ppb
          *ℤ high.place) (pos ppb *ℤ low.place) (pos (billion - ppb) *ℤ (low.error -ℤ high.error)) (pos ppb *ℤ (high.place -ℤ
          low.place)) (times-sub (billion - ppb) low.error high.error) (times-sub ppb high.place low.place),
    )

-- the lines that rise, without a division
pub rising_lines : (ppb : ℕ) (low high : Mark) →
    ((pos (billion + ppb) *ℤ (low.error -ℤ high.error)) ≤ℤ (pos ppb *ℤ (low.place -ℤ high.place)))
    ↔ (rising_line ppb low ≤ℤ rising_line ppb high)
rising_lines ppb low high =
    grind (
      arith,
      differences (pos (billion + ppb) *ℤ low.error) (pos (billion + ppb) *ℤ high.error) (pos ppb *ℤ
          low.place) (pos ppb *ℤ high.place) (pos (billion + ppb) *ℤ (low.error -ℤ high.error)) (pos ppb *ℤ (low.place -ℤ
          high.place)) (times-sub (billion + ppb) low.error high.error) (times-sub ppb low.place high.place),
    )

-- behind a high mark
pub rises_line : (ppb : ℕ) (low high : Mark) → high.place <ℤ low.place →
    (rising_line ppb low ≤ℤ rising_line ppb high) ↔ AreCompatible ppb low high
rises_line ppb low high behind = grind (arith, rising_lines, not_both)

-- the code's tests
place_is : (a : ℤ) → unsigned_abs a ≤ 2 ^ 73 → to_z w128 (of_z w128 a) ≡ a
place_is a h = w128_keeps a (omega arith)

line_is : (a : ℤ) → unsigned_abs a ≤ 2 ^ 105 → to_z w128 (of_z w128 a) ≡ a
line_is a h = w128_keeps a (omega arith)

pub le_from_test : (a b : ℤ) → le_z a b ≡ true → a ≤ℤ b
le_from_test a b h = omega (arith, ints)

pub lt_from_test : (a b : ℤ) → le_z a b ≡ false → b <ℤ a
lt_from_test a b h = omega (arith, ints)

pub tests : (a b : ℤ) → IsTrue (le_z a b) ↔ (a ≤ℤ b)
tests a b = (λ h. grind (arith, ints), λ h. grind (arith, ints))

module _ (low high : Mark) (p : IsWithinRange low) (q : IsWithinRange high) where
  pub before_from_test : le_z (to_z w128 (of_z w128 low.place)) (to_z w128 (of_z w128 high.place)) ≡ true →
      low.place ≤ℤ high.place
  before_from_test h = grind (arith, le_from_test, place_is)

  pub behind_from_test : le_z (to_z w128 (of_z w128 low.place)) (to_z w128 (of_z w128 high.place)) ≡ false →
      high.place <ℤ low.place
  behind_from_test h = grind (arith, lt_from_test, place_is)

-- numbers that 128 bits keep are compared as they are
pub compared : (a b : ℤ) → unsigned_abs a ≤ 2 ^ 105 → unsigned_abs b ≤ 2 ^ 105 →
    IsTrue (le_z (to_z w128 (of_z w128 a)) (to_z w128 (of_z w128 b))) ↔ (a ≤ℤ b)
compared a b p q = rw (line_is a p, line_is b q) (tests a b)

-- two facts that each give a third
pub joined : {A B C : Type 0} → A ↔ B → B ↔ C → A ↔ C
joined p q = (λ a. q.0 (p.0 a), λ c. p.1 (q.1 c))

pub lines_compared : {a b x y : ℤ} → a ≡ x → b ≡ y → unsigned_abs a ≤ 2 ^ 105 → unsigned_abs b ≤ 2 ^ 105 →
    IsTrue (le_z (to_z w128 (of_z w128 a)) (to_z w128 (of_z w128 b))) ↔ (x ≤ℤ y)
lines_compared {a} {b} e f p q = rw (← e, ← f) (compared a b p q)
