-- Which of two readings was first: of two clocks, or of one.
--
-- Two courses of events may have different finenesses: a time in parts of 1/n tick and one in parts
-- of 1/n' tick are compared as parts of 1/(n * n') tick.
use Rattle.std.specs.Prelude.{◌≡◌, ℕ, ◌+◌, ◌-◌, ◌*◌, ◌/◌, ◌^◌, ◌==◌, max, min, nat_le, ℤ, ◌≤◌, pos, ◌+ℤ◌, ◌-ℤ◌, ◌*ℤ◌, ◌≤ℤ◌, int_lt, unsigned_abs, ⊤, Bool, ◌&&◌, List, if◌then◌else◌}
use Rattle.sample_interval.specs.Moment.{DriftsWithin}
use Rattle.sample_interval.specs.Widening.{billion, widening}
use Rattle.true_time.specs.Common.{Course, Fits, IsObservedIn, samples_of, ClaimData, Exchange, ReadingData, Sample}
use Rattle.true_time.specs.declared.order.Order.{Order}
use Rattle.true_time.specs.declared.order.Order.TheVariants.{FirstBefore, Never, Open, SecondBefore, Unknown}
use Rattle.true_time.specs.declared.when.When.{When}
use Rattle.true_time.specs.declared.when.When.TheVariants as when

-- a tick is within 2^125 of zero; those of readings are
abbrev pub is_near : ℤ → Bool
is_near tick = nat_le (unsigned_abs tick) (2 ^ 125)

-- the first reading was from `first` to `last`, the second from `first'` to `last'`
abbrev pub order_between : ℤ → ℤ → ℤ → ℤ → Order
order_between first last first' last' =
    if int_lt last first' then FirstBefore (unsigned_abs (first' -ℤ last))
    else if int_lt last' first then SecondBefore (unsigned_abs (first -ℤ last'))
    else Open (unsigned_abs (last' -ℤ first)) (unsigned_abs (last -ℤ first'))

-- the same, if the four are near
abbrev pub order_of_near : Bool → ℤ → ℤ → ℤ → ℤ → Order
order_of_near near first last first' last' =
    if near then order_between first last first' last' else Unknown

-- the order, by when the two readings were
abbrev pub order_of : When → When → Order
order_of when.Never second = Never
order_of when.Whenever when.Never = Never
order_of (when.Between first last) when.Never = Never
order_of when.Whenever when.Whenever = Unknown
order_of when.Whenever (when.Between first last) = Unknown
order_of (when.Between first last) when.Whenever = Unknown
order_of (when.Between first last) (when.Between first' last') =
    order_of_near (is_near first && is_near last && is_near first' && is_near last')
    first last first' last'

-- True time that has gone by at least while a clock that drifts by at most ppb parts in 10^9
-- advances by so many ticks: the whole ticks of it.
abbrev pub least_time : ℕ → ℕ → ℕ
least_time ppb ticks = (ticks * billion) / (billion + ppb)

-- true time that has gone by at most meanwhile, rounded up to a tick
abbrev pub most_time : ℕ → ℕ → ℕ
most_time ppb ticks = ticks + widening ppb ticks

-- one was before the other by this at least, or by what an order says
abbrev pub first_by : ℕ → Order → Order
first_by least (FirstBefore ticks) = FirstBefore (max least ticks)
first_by least (SecondBefore ticks) = FirstBefore least
first_by least (Open earlier later) = FirstBefore least
first_by least Unknown = FirstBefore least
first_by least Never = FirstBefore least

abbrev pub second_by : ℕ → Order → Order
second_by least (SecondBefore ticks) = SecondBefore (max least ticks)
second_by least (FirstBefore ticks) = SecondBefore least
second_by least (Open earlier later) = SecondBefore least
second_by least Unknown = SecondBefore least
second_by least Never = SecondBefore least

-- either may have been first, neither by more than this
abbrev pub open_by : ℕ → ℕ → Order → Order
open_by earlier later (Open e l) = Open (min earlier e) (min later l)
open_by earlier later Unknown = Open earlier later
open_by earlier later (FirstBefore ticks) = FirstBefore ticks
open_by earlier later (SecondBefore ticks) = SecondBefore ticks
open_by earlier later Never = Never

-- The order of two readings of one clock, of which an order is known, if each begins before the
-- other ends, by their ticks: where these are one tick too many, one reading ends where the other
-- begins; else the order is an open one.
abbrev pub order_of_touching : ℕ → ReadingData → ReadingData → Order → Order
order_of_touching ppb r r' order =
    if r.end == r'.begin + 1 then first_by 0 order
    else if r'.end == r.begin + 1 then second_by 0 order
    else open_by (most_time ppb (r'.end - r.begin)) (most_time ppb (r.end - r'.begin)) order

-- the order of two readings of one clock, of which an order is known: that of their ticks
abbrev pub order_by_readings : ℕ → ReadingData → ReadingData → Order → Order
order_by_readings ppb r r' order =
    if nat_le r.end r'.begin then first_by (least_time ppb (r'.begin - r.end)) order
    else if nat_le r'.end r.begin then second_by (least_time ppb (r.begin - r'.end)) order
    else order_of_touching ppb r r' order

-- the order of two readings of one clock, if by when they were it is this one
abbrev pub order_of_one : ℕ → ReadingData → ReadingData → Order → Order
order_of_one ppb r r' Never = Never
order_of_one ppb r r' order = order_by_readings ppb r r' order

-- a time is at least so many ticks before another
abbrev pub IsBefore : ℕ → ℕ → ℕ → ℤ → ℤ → Type 0
IsBefore ticks n n' time time' =
    ((time *ℤ pos n') +ℤ pos (ticks * (n * n'))) ≤ℤ (time' *ℤ pos n)

-- a time is at most so many ticks before another
abbrev pub IsAtMostBefore : ℕ → ℕ → ℕ → ℤ → ℤ → Type 0
IsAtMostBefore ticks n n' time time' =
    (time' *ℤ pos n) ≤ℤ ((time *ℤ pos n') +ℤ pos (ticks * (n * n')))

-- what an order says of the first true time and the second
abbrev pub IsSo : Order → ℕ → ℕ → ℤ → ℤ → Type 0
IsSo (FirstBefore ticks) n n' time time' = IsBefore ticks n n' time time'
IsSo (SecondBefore ticks) n n' time time' = IsBefore ticks n' n time' time
IsSo (Open earlier later) n n' time time' =
    IsAtMostBefore earlier n n' time time' × IsAtMostBefore later n' n time' time
IsSo Unknown n n' time time' = ⊤
IsSo Never n n' time time' = ⊥

-- it says so of the observations of two courses
abbrev pub IsOrderOf : Order → Course → Course → Type 0
IsOrderOf order course course' = IsSo order course.fineness course'.fineness
    course.observation.time course'.observation.time

-- One clock in one course of events, observed twice: two courses that fit, between whose
-- observations its error drifts as between any two moments. It shows both readings as they are
-- written, in whole nanoseconds, each of over four ticks: so of two whose ticks are one tick too
-- many, since ends are rounded outwards, one ends where the other begins.
pub record IsReadTwice (claim : ClaimData) (xs : List Exchange) (r r' : ReadingData)
    (course course' : Course) : Type 0 where
  pub first : Fits claim xs course
  pub second : Fits claim xs course'
  pub same_fineness : course'.fineness ≡ course.fineness
  pub drift : DriftsWithin claim.drift_ppb course.observation course'.observation
  pub touches_next : r.end ≡ r'.begin + 1
      → course.observation.reading ≤ℤ course'.observation.reading
  pub touches_last : r'.end ≡ r.begin + 1
      → course'.observation.reading ≤ℤ course.observation.reading

-- so it is in every course that fits exchanges with these samples, in which the clock shows both
abbrev pub HoldsOrderOfOne : ClaimData → List Sample → ReadingData → ReadingData → Order → Type 0
HoldsOrderOfOne claim samples r r' order = (xs : List Exchange) (course course' : Course)
    → samples ≡ samples_of xs claim → IsReadTwice claim xs r r' course course'
    → IsObservedIn course (pos r.begin) (pos r.end)
    → IsObservedIn course' (pos r'.begin) (pos r'.end)
    → IsOrderOf order course course'

-- the ticks of an order can be written as nanoseconds
abbrev pub IsShort : Order → Type 0
IsShort (FirstBefore ticks) = ticks ≤ 2 ^ 127
IsShort (SecondBefore ticks) = ticks ≤ 2 ^ 127
IsShort (Open earlier later) = (earlier ≤ 2 ^ 127) × (later ≤ 2 ^ 127)
IsShort Unknown = ⊤
IsShort Never = ⊤
