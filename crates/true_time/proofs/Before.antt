-- Which of two readings was first: of two clocks, or of one.
use Rattle.true_time.proofs.Common.{◌≡◌, ℕ, ℤ, pos, ◌*ℤ◌, ◌-ℤ◌, ◌≤ℤ◌, List, arith, ints, refl, AreSamplesOf, Bounded, ClaimData, Course, Empty, Hull, IsLawful, ReadingData, Sample, Unbounded, hull_of}
use Rattle.std.proofs.Common.{Bool, true, false, suc, negsuc, ◌+◌, ◌-◌, ◌*◌, ◌≤◌, ◌<◌, ◌+ℤ◌, unsigned_abs, int_lt, nat_le, ◌==◌, max, min, subst, sym, ap, ⊎_elim, if◌then◌else◌}
use Rattle.std.proofs.Math.Nat.{div-mul-le_self, le_of_mul-le-mul_left, mul-le-mul_right, mul_comm}
use Rattle.std.proofs.lemmas.Int.{clamps}
use Rattle.std.proofs.lemmas.Bool.{cases_lt}
use Rattle.std.proofs.lemmas.Bool.Decides.{nat_tests}
use Rattle.intersection.specs.Fineness.{times-add, times-times, times_le}
use Rattle.lemma_base.proofs.Int.{int_lt-true, int_lt-false}
use Rattle.sample_interval.specs.Moment.{DriftsWithin, Moment, IsInWindow}
use Rattle.sample_interval.specs.Widening.{IsWidening, billion, widening}
use Rattle.true_time.specs.Order.{HoldsOrderOfOne, IsAtMostBefore, IsBefore, IsSo, first_by, least_time, most_time, open_by, order_between, order_by_readings, order_of, order_of_near, order_of_one, order_of_touching, second_by}
use Rattle.true_time.specs.ReadingLine.{are_near}
use Rattle.true_time.specs.TrueTime.{HoldsTrueTime, IsThen, earliest, latest}
use Rattle.true_time.specs.When.{HoldsWhen, IsDuring, when_at, when_of}
use Rattle.true_time.specs.declared.order.Order.{Order}
use Rattle.true_time.specs.declared.order.Order.TheVariants.{FirstBefore, Never, Open, SecondBefore, Unknown}
use Rattle.true_time.specs.declared.when.When.{When}
use Rattle.true_time.specs.declared.when.When.TheVariants as when

-- ---- when a reading was

by_ends : (near : Bool) (r : ReadingData) (low high : ℤ) (course : Course)
    → IsInWindow course.fineness (earliest r high) (latest r low) course.observation.time
    → IsDuring (if near then when.Between (earliest r high) (latest r low) else when.Whenever) course.fineness
    course.observation.time
by_ends true r low high course within = within
by_ends false r low high course within = tt

by_hull : (hull : Hull) (r : ReadingData) (course : Course) → IsThen course r hull
    → IsDuring (when_of r hull) course.fineness course.observation.time
by_hull Unbounded r course was = tt
by_hull Empty r course was = was
by_hull (Bounded low high) r course was = by_ends (are_near low high) r low high course was

pub when_holds : ((claim : ClaimData) (samples : List Sample) (r : ReadingData) → IsLawful claim
    → AreSamplesOf claim samples → HoldsTrueTime claim samples r (hull_of samples claim r))
    → (claim : ClaimData) (samples : List Sample) (r : ReadingData) → IsLawful claim → AreSamplesOf claim samples
    → HoldsWhen claim samples r (when_at samples claim r)
when_holds held claim samples r lawful of_claim xs course same fits shown =
    by_hull (hull_of samples claim r) r course (held claim samples r lawful of_claim xs course same fits shown)

-- ---- two times

later : (a b : ℤ) → a ≤ℤ b → b ≡ a +ℤ pos (unsigned_abs (b -ℤ a))
later a b h = omega (arith, ints, clamps)

both : (tick : ℤ) (n n' : ℕ) → (tick *ℤ pos (n * n')) ≡ ((tick *ℤ pos n') *ℤ pos n)
both tick n n' = rw (mul_comm n n') (times-times tick n' n)

before : (a b : ℤ) (n n' : ℕ) (time time' : ℤ) → a ≤ℤ b → time ≤ℤ (a *ℤ pos n) → (b *ℤ pos n') ≤ℤ time'
    → IsBefore (unsigned_abs (b -ℤ a)) n n' time time'
before a b n n' time time' h at_most at_least =
    let first = times_le time (a *ℤ pos n) n' at_most in
    let second = times_le (b *ℤ pos n') time' n at_least in
    let apart = times-add b a (pos (unsigned_abs (b -ℤ a))) (n * n') (later a b h) in
    let of_a = times-times a n n' in
    let of_b = both b n n' in
    omega (arith, ints)

at_most_before : (a b : ℤ) (n n' : ℕ) (time time' : ℤ) → a ≤ℤ b → (a *ℤ pos n) ≤ℤ time → time' ≤ℤ (b *ℤ pos n')
    → IsAtMostBefore (unsigned_abs (b -ℤ a)) n n' time time'
at_most_before a b n n' time time' h at_least at_most =
    let first = times_le (a *ℤ pos n) time n' at_least in
    let second = times_le time' (b *ℤ pos n') n at_most in
    let apart = times-add b a (pos (unsigned_abs (b -ℤ a))) (n * n') (later a b h) in
    let of_a = times-times a n n' in
    let of_b = both b n n' in
    omega (arith, ints)

-- ---- the order of two readings, by when they were

module _ (first last first' last' : ℤ) (n n' : ℕ) (time time' : ℤ) (during : IsInWindow n first last time)
    (during' : IsInWindow n' first' last' time') where
  chosen : (is_first is_second : Bool) → (is_first ≡ true → last ≤ℤ first') → (is_second ≡ true → last' ≤ℤ first)
      → (is_first ≡ false → first' ≤ℤ last) → (is_second ≡ false → first ≤ℤ last')
      → IsSo (if is_first then FirstBefore (unsigned_abs (first' -ℤ last))
      else if is_second then SecondBefore (unsigned_abs (first -ℤ last'))
      else Open (unsigned_abs (last' -ℤ first)) (unsigned_abs (last -ℤ first'))) n n' time time'
  chosen true is_second is_1 is_2 isnt_1 isnt_2 =
      before last first' n n' time time' (is_1 refl) during.1 during'.0
  chosen false true is_1 is_2 isnt_1 isnt_2 =
      before last' first n' n time' time (is_2 refl) during'.1 during.0
  chosen false false is_1 is_2 isnt_1 isnt_2 = (
    at_most_before first last' n n' time time' (isnt_2 refl) during.0 during'.1,
    at_most_before first' last n' n time' time (isnt_1 refl) during'.0 during.1,
  )

  between : IsSo (order_between first last first' last') n n' time time'
  between = chosen (int_lt last first') (int_lt last' first)
      (λ is. let lt = int_lt-true last first' is in omega (arith, ints))
      (λ is. let lt = int_lt-true last' first is in omega (arith, ints))
      (int_lt-false last first') (int_lt-false last' first)

  if_near : (near : Bool) → IsSo (order_of_near near first last first' last') n n' time time'
  if_near true = between
  if_near false = tt

pub order_is_so : (first second : When) (n n' : ℕ) (time time' : ℤ) → IsDuring first n time → IsDuring second n' time'
    → IsSo (order_of first second) n n' time time'
order_is_so when.Never second n n' time time' during during' = during
order_is_so when.Whenever when.Never n n' time time' during during' = during'
order_is_so (when.Between first last) when.Never n n' time time' during during' = during'
order_is_so when.Whenever when.Whenever n n' time time' during during' = tt
order_is_so when.Whenever (when.Between first last) n n' time time' during during' = tt
order_is_so (when.Between first last) when.Whenever n n' time time' during during' = tt
order_is_so (when.Between first last) (when.Between first' last') n n' time time' during during' =
    if_near first last first' last' n n' time time' during during' _

-- ---- two readings of one clock

-- if a clock advances by y parts, true time goes on
goes_on : (p y : ℕ) (time : ℤ) → p ≤ 500000000
    → (billion * unsigned_abs (pos y -ℤ time)) ≤ (p * unsigned_abs time)
    → (x : ℕ) × (time ≡ pos x) × ((y * billion) ≤ ((billion + p) * x))
goes_on p y (pos x) rate drift =
    let near : y ≤ x + unsigned_abs (pos y -ℤ pos x) = omega (arith, ints, clamps) in
    (x, refl, omega (arith, ints))
goes_on p y (negsuc x) rate drift =
    let far : suc x ≤ unsigned_abs (pos y -ℤ negsuc x) = omega (arith, ints, clamps) in
    let slow = mul-le-mul_right (suc x) rate in
    absurd (omega (arith, ints))

-- by l ticks at least
least : (l p ticks n y x : ℕ) → (l * (billion + p)) ≤ (ticks * billion) → (ticks * n) ≤ y
    → (y * billion) ≤ ((billion + p) * x) → (l * n) ≤ x
least l p ticks n y x whole advanced went =
    let scaled = mul-le-mul_right n whole in
    let grown = mul-le-mul_right billion advanced in
    let product : (billion + p) * (l * n) ≤ (billion + p) * x = omega arith in
    le_of_mul-le-mul_left product (omega arith)

drift_back : (p : ℕ) (a b : Moment) → DriftsWithin p a b → DriftsWithin p b a
drift_back p a b drift =
    let time : unsigned_abs (a.time -ℤ b.time) ≡ unsigned_abs (b.time -ℤ a.time) = omega (arith, ints, clamps) in
    let change : unsigned_abs ((a.reading -ℤ a.time) -ℤ (b.reading -ℤ b.time))
    ≡ unsigned_abs ((b.reading -ℤ b.time) -ℤ (a.reading -ℤ a.time)) = omega (arith, ints, clamps) in
    rw (change, time) drift

-- a reading that ends so many ticks before another begins
reads_before : (p end begin n : ℕ) (a b : Moment) → p ≤ 500000000 → end ≤ begin → DriftsWithin p a b
    → a.reading ≤ℤ (pos end *ℤ pos n) → (pos begin *ℤ pos n) ≤ℤ b.reading
    → IsBefore (least_time p (begin - end)) n n a.time b.time
reads_before p end begin n a b rate in_order drift at_most at_least =
    let ticks = begin - end in
    let y = unsigned_abs (b.reading -ℤ a.reading) in
    let step : pos begin ≡ pos end +ℤ pos ticks = omega (arith, ints) in
    let apart = times-add (pos begin) (pos end) (pos ticks) n step in
    let is_y : (b.reading -ℤ a.reading) ≡ pos y = omega (arith, ints, clamps) in
    let far : ticks * n ≤ y = omega (arith, ints) in
    let change : ((b.reading -ℤ b.time) -ℤ (a.reading -ℤ a.time)) ≡ (pos y -ℤ (b.time -ℤ a.time)) =
    omega (arith, ints) in
    let went = goes_on p y (b.time -ℤ a.time) rate
    (subst (λ (z : ℤ). (billion * unsigned_abs z) ≤ (p * unsigned_abs (b.time -ℤ a.time))) change drift) in
    let enough = least (least_time p ticks) p ticks n y went.0
    (div-mul-le_self (ticks * billion) (billion + p)) far went.2 in
    let scaled = mul-le-mul_right n enough in
    let gone = times-add b.time a.time (pos went.0) n (let is = went.1 in omega (arith, ints)) in
    omega (arith, ints)

-- a reading that is no later than another
reads_no_later : (p n : ℕ) (a b : Moment) → p ≤ 500000000 → DriftsWithin p a b → a.reading ≤ℤ b.reading
    → IsBefore 0 n n a.time b.time
reads_no_later p n a b rate drift no_later =
    let y = unsigned_abs (b.reading -ℤ a.reading) in
    let is_y : (b.reading -ℤ a.reading) ≡ pos y = omega (arith, ints, clamps) in
    let change : ((b.reading -ℤ b.time) -ℤ (a.reading -ℤ a.time)) ≡ (pos y -ℤ (b.time -ℤ a.time)) =
    omega (arith, ints) in
    let went = goes_on p y (b.time -ℤ a.time) rate
    (subst (λ (z : ℤ). (billion * unsigned_abs z) ≤ (p * unsigned_abs (b.time -ℤ a.time))) change drift) in
    let gone = times_le a.time b.time n (let is = went.1 in omega (arith, ints)) in
    omega (arith, ints)

-- a clock's advance by y parts takes no more true time
takes : (p q y : ℕ) (time : ℤ) → (q + p) ≡ billion → p ≤ 500000000
    → (billion * unsigned_abs (pos y -ℤ time)) ≤ (p * unsigned_abs time)
    → (x : ℕ) × (time ≡ pos x) × ((q * x) ≤ (y * billion))
takes p q y (pos x) whole rate drift =
    let near : x ≤ y + unsigned_abs (pos y -ℤ pos x) = omega (arith, ints, clamps) in
    let parts : (q + p) * x ≡ billion * x = ap (λ (n : ℕ). n * x) whole in
    (x, refl, omega (arith, ints))
takes p q y (negsuc x) whole rate drift =
    let far : suc x ≤ unsigned_abs (pos y -ℤ negsuc x) = omega (arith, ints, clamps) in
    let slow = mul-le-mul_right (suc x) rate in
    absurd (omega (arith, ints))

-- by these ticks and their widening at most
most : (p q w ticks n y x : ℕ) → (q + p) ≡ billion → 0 < q → (p * ticks) ≤ (w * q) → y ≤ (ticks * n)
    → (q * x) ≤ (y * billion) → x ≤ ((ticks + w) * n)
most p q w ticks n y x whole some wide advanced went =
    let parts : ticks * (q + p) ≡ ticks * billion = ap (λ (k : ℕ). ticks * k) whole in
    let enough : ticks * billion ≤ (ticks + w) * q = omega arith in
    let scaled = mul-le-mul_right n enough in
    let grown = mul-le-mul_right billion advanced in
    let product : q * x ≤ q * ((ticks + w) * n) = omega arith in
    le_of_mul-le-mul_left product some

module _ (p end begin n : ℕ) (a b : Moment) (rate : p ≤ 500000000) (in_order : begin ≤ end)
    (wide : IsWidening p (end - begin) (widening p (end - begin))) (drift : DriftsWithin p a b)
    (at_least : (pos begin *ℤ pos n) ≤ℤ a.reading) (at_most : b.reading ≤ℤ (pos end *ℤ pos n)) where
  advances : (d : ℤ) → (b.reading -ℤ a.reading) ≡ d → IsAtMostBefore (most_time p (end - begin)) n n a.time b.time
  advances (pos y) is_y =
      let ticks = end - begin in
      let step : pos end ≡ pos begin +ℤ pos ticks = omega (arith, ints) in
      let apart = times-add (pos end) (pos begin) (pos ticks) n step in
      let near : y ≤ ticks * n = omega (arith, ints) in
      let change : ((b.reading -ℤ b.time) -ℤ (a.reading -ℤ a.time)) ≡ (pos y -ℤ (b.time -ℤ a.time)) =
      omega (arith, ints) in
      let whole : (billion - p) + p ≡ billion = omega arith in
      let went = takes p (billion - p) y (b.time -ℤ a.time) whole rate
      (subst (λ (z : ℤ). (billion * unsigned_abs z) ≤ (p * unsigned_abs (b.time -ℤ a.time))) change drift) in
      let enough = most p (billion - p) (widening p ticks) ticks n y went.0 whole (omega arith) wide.not_below near
      went.2 in
      let scaled = mul-le-mul_right n enough in
      let gone = times-add b.time a.time (pos went.0) n (let is = went.1 in omega (arith, ints)) in
      omega (arith, ints)
  advances (negsuc y) is_y =
      let change : ((a.reading -ℤ a.time) -ℤ (b.reading -ℤ b.time)) ≡ (pos (suc y) -ℤ (a.time -ℤ b.time)) =
      omega (arith, ints) in
      let went = goes_on p (suc y) (a.time -ℤ b.time) rate
      (subst (λ (z : ℤ). (billion * unsigned_abs z) ≤ (p * unsigned_abs (a.time -ℤ b.time))) change
      (drift_back p a b drift)) in
      let gone = times-add a.time b.time (pos went.0) n (let is = went.1 in omega (arith, ints)) in
      omega (arith, ints)

  ends_after : IsAtMostBefore (most_time p (end - begin)) n n a.time b.time
  ends_after = advances (b.reading -ℤ a.reading) refl

-- ---- what the readings and an order say

of_max : (P : ℕ → Type 0) (a b : ℕ) → P a → P b → P (max a b)
of_max P a b of_a of_b = ⊎_elim (λ lt. subst P (let is : b ≡ max a b = omega arith in is) of_b)
    (λ ge. subst P (let is : a ≡ max a b = omega arith in is) of_a) (cases_lt a b)

of_min : (P : ℕ → Type 0) (a b : ℕ) → P a → P b → P (min a b)
of_min P a b of_a of_b = ⊎_elim (λ lt. subst P (let is : a ≡ min a b = omega arith in is) of_a)
    (λ ge. subst P (let is : b ≡ min a b = omega arith in is) of_b) (cases_lt a b)

module _ (n : ℕ) (time time' : ℤ) where
  first_is_so : (least : ℕ) (order : Order) → IsBefore least n n time time' → IsSo order n n time time'
      → IsSo (first_by least order) n n time time'
  first_is_so least (FirstBefore ticks) is so = of_max (λ (k : ℕ). IsBefore k n n time time') least ticks is so
  first_is_so least (SecondBefore ticks) is so = is
  first_is_so least (Open earlier later) is so = is
  first_is_so least Unknown is so = is
  first_is_so least Never is so = is

  second_is_so : (least : ℕ) (order : Order) → IsBefore least n n time' time → IsSo order n n time time'
      → IsSo (second_by least order) n n time time'
  second_is_so least (SecondBefore ticks) is so = of_max (λ (k : ℕ). IsBefore k n n time' time) least ticks is so
  second_is_so least (FirstBefore ticks) is so = is
  second_is_so least (Open earlier later) is so = is
  second_is_so least Unknown is so = is
  second_is_so least Never is so = is

  open_is_so : (earlier later : ℕ) (order : Order) → IsAtMostBefore earlier n n time time'
      → IsAtMostBefore later n n time' time → IsSo order n n time time'
      → IsSo (open_by earlier later order) n n time time'
  open_is_so earlier later (Open e l) by_1 by_2 so = (
    of_min (λ (k : ℕ). IsAtMostBefore k n n time time') earlier e by_1 so.0,
    of_min (λ (k : ℕ). IsAtMostBefore k n n time' time) later l by_2 so.1,
  )
  open_is_so earlier later Unknown by_1 by_2 so = (by_1, by_2)
  open_is_so earlier later (FirstBefore ticks) by_1 by_2 so = so
  open_is_so earlier later (SecondBefore ticks) by_1 by_2 so = so
  open_is_so earlier later Never by_1 by_2 so = so

module _ (wide : (ppb distance : ℕ) → ppb < billion → IsWidening ppb distance (widening ppb distance)) (p : ℕ)
    (rate : p ≤ 500000000) (r r' : ReadingData) (n : ℕ) (a b : Moment) (drift : DriftsWithin p a b)
    (shown : IsInWindow n (pos r.begin) (pos r.end) a.reading)
    (shown' : IsInWindow n (pos r'.begin) (pos r'.end) b.reading)
    (next : r.end ≡ r'.begin + 1 → a.reading ≤ℤ b.reading) (last : r'.end ≡ r.begin + 1 → b.reading ≤ℤ a.reading)
  where
    touching : (is_next is_last : Bool) → (is_next ≡ true → r.end ≡ r'.begin + 1)
        → (is_last ≡ true → r'.end ≡ r.begin + 1) → r'.begin ≤ r.end → r.begin ≤ r'.end → (order : Order)
        → IsSo order n n a.time b.time
        → IsSo (if is_next then first_by 0 order else if is_last then second_by 0 order
        else open_by (most_time p (r'.end - r.begin)) (most_time p (r.end - r'.begin)) order) n n a.time b.time
    touching true is_last is_1 is_2 from to order so = first_is_so n a.time b.time 0 order
        (reads_no_later p n a b rate drift (next (is_1 refl))) so
    touching false true is_1 is_2 from to order so = second_is_so n a.time b.time 0 order
        (reads_no_later p n b a rate (drift_back p a b drift) (last (is_2 refl))) so
    touching false false is_1 is_2 from to order so =
        let slow : p < billion = omega arith in
        open_is_so n a.time b.time _ _ order
        (ends_after p r'.end r.begin n a b rate to (wide p (r'.end - r.begin) slow) drift shown.0 shown'.1)
        (ends_after p r.end r'.begin n b a rate from (wide p (r.end - r'.begin) slow) (drift_back p a b drift)
        shown'.0 shown.1) so

    by_readings : (is_first is_second : Bool) → (is_first ≡ true → r.end ≤ r'.begin)
        → (is_second ≡ true → r'.end ≤ r.begin) → (is_first ≡ false → r'.begin ≤ r.end)
        → (is_second ≡ false → r.begin ≤ r'.end) → (order : Order) → IsSo order n n a.time b.time
        → IsSo (if is_first then first_by (least_time p (r'.begin - r.end)) order
        else if is_second then second_by (least_time p (r.begin - r'.end)) order
        else order_of_touching p r r' order) n n a.time b.time
    by_readings true is_second is_1 is_2 isnt_1 isnt_2 order so = first_is_so n a.time b.time _ order
        (reads_before p r.end r'.begin n a b rate (is_1 refl) drift shown.1 shown'.0) so
    by_readings false true is_1 is_2 isnt_1 isnt_2 order so = second_is_so n a.time b.time _ order
        (reads_before p r'.end r.begin n b a rate (is_2 refl) (drift_back p a b drift) shown'.1 shown.0) so
    by_readings false false is_1 is_2 isnt_1 isnt_2 order so =
        touching (r.end == r'.begin + 1) (r'.end == r.begin + 1) (λ is. grind (arith, nat_tests))
        (λ is. grind (arith, nat_tests)) (isnt_1 refl) (isnt_2 refl) order so

    one_by_readings : (order : Order) → IsSo order n n a.time b.time
        → IsSo (order_by_readings p r r' order) n n a.time b.time
    one_by_readings = by_readings (nat_le r.end r'.begin) (nat_le r'.end r.begin)
        (λ is. grind (arith, nat_tests)) (λ is. grind (arith, nat_tests))
        (λ isnt. grind (arith, nat_tests)) (λ isnt. grind (arith, nat_tests))

    one_is_so : (order : Order) → IsSo order n n a.time b.time → IsSo (order_of_one p r r' order) n n a.time b.time
    one_is_so Never so = so
    one_is_so Unknown so = one_by_readings Unknown so
    one_is_so (FirstBefore ticks) so = one_by_readings (FirstBefore ticks) so
    one_is_so (SecondBefore ticks) so = one_by_readings (SecondBefore ticks) so
    one_is_so (Open earlier later) so = one_by_readings (Open earlier later) so

-- the same of one clock in one course
pub one_holds : ((ppb distance : ℕ) → ppb < billion → IsWidening ppb distance (widening ppb distance))
    → ((claim : ClaimData) (samples : List Sample) (r : ReadingData) → IsLawful claim
    → AreSamplesOf claim samples → HoldsWhen claim samples r (when_at samples claim r))
    → (claim : ClaimData) (samples : List Sample) (r r' : ReadingData) → IsLawful claim → AreSamplesOf claim samples
    → HoldsOrderOfOne claim samples r r' (order_of_one claim.drift_ppb r r'
    (order_of (when_at samples claim r) (when_at samples claim r')))
one_holds wide held claim samples r r' lawful of_claim xs course course' same twice shown shown' =
    let time = course.observation.time in
    let time' = course'.observation.time in
    let first = when_at samples claim r in
    let second = when_at samples claim r' in
    let so = order_is_so first second course.fineness course'.fineness time time'
    (held claim samples r lawful of_claim xs course same twice.first shown)
    (held claim samples r' lawful of_claim xs course' same twice.second shown') in
    subst (λ (n' : ℕ). IsSo (order_of_one claim.drift_ppb r r' (order_of first second)) course.fineness n' time time')
    (sym twice.same_fineness)
    (one_is_so wide claim.drift_ppb lawful.drift_in_range r r' course.fineness course.observation course'.observation
    twice.drift shown
    (subst (λ (n' : ℕ). IsInWindow n' (pos r'.begin) (pos r'.end) course'.observation.reading) twice.same_fineness
    shown') twice.touches_next twice.touches_last
    (order_of first second)
    (subst (λ (n' : ℕ). IsSo (order_of first second) course.fineness n' time time') twice.same_fineness so))
