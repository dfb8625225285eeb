use Rattle.feasibility.proofs.Common.{◌≡◌, ℕ, ◌<◌, length, refl, ap, ◌∙◌, arith, get_or_default_zero}
use Rattle.feasibility.proofs.FirstPairs.{first_same, some_mark}
use Rattle.feasibility.proofs.numbered_marks.NumberedMarks.first_against.Goals as goal

bound_there : (j n m k len : ℕ) → j < n → n ≡ m → m ≡ k → len ≡ k → j < len
bound_there j n m k len below same same' is = omega arith

pub index-requires-in-Some : goal.index-requires-in-Some
index-requires-in-Some c =
    let other = c.args.other.now in
    let first = rw c.in-Some.is at c.in_ok-low.ensures in
    bound_there c.in-Some.high (length c.deref-2.result.now) (length other.highs.items) (length other.numbers.items) _
    (first.first_of_it some_mark).within (ap length c.deref-2.ensures.value) c.requires.other.high_count
    other.numbers.ok.0

pub returns-in-Some : goal.returns-in-Some
returns-in-Some c =
    let one = c.args.self.now in
    let other = c.args.other.now in
    let i = c.in-Some.low in
    let j = c.in-Some.high in
    let first = rw c.in-Some.is at c.in_ok-low.ensures in
    let i_below : i < length one.numbers.items =
    bound_there i (length c.deref.result.now) (length one.lows.items) (length one.numbers.items) _ first.within
    (ap length c.deref.ensures.value) c.requires.one.low_count refl in
    let j_below : j < length other.numbers.items =
    bound_there j (length c.deref-2.result.now) (length other.highs.items) (length other.numbers.items) _
    (first.first_of_it some_mark).within (ap length c.deref-2.ensures.value) c.requires.other.high_count refl in
    record {
      i = i;
      j = j;
      first = first_same c.args.drift_ppb c.deref.result.now one.lows.items c.deref-2.result.now other.highs.items
          c.deref.ensures.value c.deref-2.ensures.value i j first;
      low = c.index.ensures ∙ get_or_default_zero one.numbers.items i c.index.result.now i_below;
      high = c.index-in-Some.ensures
          ∙ get_or_default_zero other.numbers.items j c.index-in-Some.result.now j_below;
    }
