-- Marks are compatible exactly if both ways through them keep the lines below.
use Rattle.std.proofs.lemmas.Bool.Decides.{nat_tests}
use Rattle.error_marks.proofs.Common.{◌≡◌, ℕ, zero, suc, ◌+◌, ◌-◌, ◌*◌, ◌<◌, ◌≤◌, ℤ, pos, negsuc, ◌-ℤ◌, ◌*ℤ◌, ◌≤ℤ◌, ◌↔◌, Bool, true, false, IsTrue, List, IsPermutation, get_or, sym, ◌∙◌, arith, All, ints, by_lt_z, All-permutation, IsPermutation-sym, mul-le-mul_left, billion, IsRate, AllCompatible, KeepsBelow, AllKeepBelow, rising_line, AreCompatible, Mark, ≤ℤ_antisymm, ≤ℤ-from_equal, ≤ℤ-from_lt}
use Rattle.std.proofs.lemmas.Bool.{false≢true}
use Rattle.error_marks.specs.declared.direction.Direction.TheVariants.{Falling, Rising}
use Rattle.error_marks.proofs.MarkPair.{falls_line, rises_line, rising_lines}

-- n times a difference is above zero where the difference is
pub none_above : (n : ℕ) (z : ℤ) → z ≤ℤ pos 0 → (pos n *ℤ z) ≤ℤ pos 0
none_above n (pos zero) h = omega (arith, ints)
none_above n (pos (suc x)) h = absurd (omega (arith, ints))
none_above n (negsuc x) h = omega (arith, ints)

pub some_above : (n : ℕ) (z : ℤ) → 0 < n → (pos n *ℤ z) ≤ℤ pos 0 → z ≤ℤ pos 0
some_above n (pos zero) some h = omega (arith, ints)
some_above n (pos (suc x)) some h =
    let more : n * 1 ≤ n * suc x = mul-le-mul_left n (omega arith) in
    absurd (omega (arith, ints))
some_above n (negsuc x) some h = omega (arith, ints)

-- n times no advance is none
pub no_advance : (n : ℕ) (z : ℤ) → z ≡ pos 0 → (pos n *ℤ z) ≡ pos 0
no_advance n z e = rw e (omega (arith, ints))

-- a low mark that is no higher is compatible wherever it stands
pub compatible_in_order : (ppb : ℕ) (low high : Mark) → low.error ≤ℤ high.error → AreCompatible ppb low high
compatible_in_order ppb low high le = grind (arith, ints, nat_tests)

-- at one place two marks are compatible exactly if the low one lies no higher
pub at_one_place : (ppb : ℕ) (low high : Mark) → IsRate ppb → low.place ≡ high.place →
    AreCompatible ppb low high ↔ (low.error ≤ℤ high.error)
at_one_place ppb low high rate same = (
  λ fits.
      let none = some_above (billion - ppb) (low.error -ℤ high.error) (omega arith)
      (rw (no_advance ppb (high.place -ℤ low.place) (omega (arith, ints))) at
      (fits.falls (≤ℤ-from_equal low.place high.place same))) in
      omega (arith, ints),
  compatible_in_order ppb low high,
)

-- and then its rising line lies no higher
equal_rises : (ppb : ℕ) (low high : Mark) → low.place ≡ high.place → low.error ≤ℤ high.error →
    rising_line ppb low ≤ℤ rising_line ppb high
equal_rises ppb low high same le =
    (rising_lines ppb low high).0
    (rw (no_advance ppb (low.place -ℤ high.place) (omega (arith, ints)))
    (none_above (billion + ppb) (low.error -ℤ high.error) (omega (arith, ints))))

pub both : (ppb : ℕ) (low high : Mark) → IsRate ppb →
    AreCompatible ppb low high → KeepsBelow Falling ppb low high × KeepsBelow Rising ppb high low
both ppb low high rate fits = (
  λ before. (falls_line ppb low high before).1 fits,
  λ behind.
      let rises : rising_line ppb low ≤ℤ rising_line ppb high = by_lt_z high.place low.place
      (λ after. (rises_line ppb low high after).1 fits)
      (λ before.
      let same = ≤ℤ_antisymm low.place high.place before behind in
      equal_rises ppb low high same ((at_one_place ppb low high rate same).0 fits)) in
      omega (arith, ints),
)

pub from_both : (ppb : ℕ) (low high : Mark) → KeepsBelow Falling ppb low high → KeepsBelow Rising ppb high low →
    AreCompatible ppb low high
from_both ppb low high falling rising = by_lt_z high.place low.place
    (λ after.
    let turned = rising (≤ℤ-from_lt high.place low.place after) in
    (rises_line ppb low high after).0 (omega (arith, ints)))
    (λ before. (falls_line ppb low high before).0 (falling before))

module _ (ppb : ℕ) (rate : IsRate ppb) (lows highs : List Mark) (falling : Bool)
    (f : IsTrue falling ↔ AllKeepBelow Falling ppb lows highs) where
  all_from : AllKeepBelow Falling ppb lows highs → AllKeepBelow Rising ppb highs lows → AllCompatible ppb lows highs
  all_from first second i d within j d' within' = grind (arith, from_both, get_or)

  all_falling : AllCompatible ppb lows highs → AllKeepBelow Falling ppb lows highs
  all_falling all j d' within' i d within = grind (arith, both, get_or)

  all_rising : AllCompatible ppb lows highs → AllKeepBelow Rising ppb highs lows
  all_rising all i d within j d' within' = grind (arith, both, get_or)

  pub where_falling : (rising : Bool) → IsTrue rising ↔ AllKeepBelow Rising ppb highs lows → falling ≡ true →
      IsTrue rising ↔ AllCompatible ppb lows highs
  where_falling rising (from, to) is = (λ t. all_from (f.0 is) (from t), λ all. to (all_rising all))

  pub where_not : falling ≡ false → IsTrue falling ↔ AllCompatible ppb lows highs
  where_not is = (λ t. absurd (false≢true (sym is ∙ t)), λ all. f.1 (all_falling all))

-- lists in another order
pub of_permutation : (ppb : ℕ) (lows lows' highs highs' : List Mark) → IsPermutation lows lows' →
    IsPermutation highs highs' → AllCompatible ppb lows highs → AllCompatible ppb lows' highs'
of_permutation ppb lows lows' highs highs' p q h =
    All-permutation (λ low. All (λ high. AreCompatible ppb low high) highs') lows lows' p
    (λ k d within. All-permutation (λ high. AreCompatible ppb (get_or lows k d) high) highs highs' q (h k d within))

pub of_sorted : (ppb : ℕ) (lows lows' highs highs' : List Mark) → IsPermutation lows lows' →
    IsPermutation highs highs' → (answer : Bool) → IsTrue answer ↔ AllCompatible ppb lows' highs' →
    IsTrue answer ↔ AllCompatible ppb lows highs
of_sorted ppb lows lows' highs highs' p q answer (from, to) = (
  λ t. of_permutation ppb lows' lows highs' highs (IsPermutation-sym lows lows' p) (IsPermutation-sym highs highs' q)
      (from t),
  λ all. to (of_permutation ppb lows lows' highs highs' p q all),
)
