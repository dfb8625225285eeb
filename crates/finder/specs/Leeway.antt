-- How great an error the exchanges of a group let be at a reading, to one side of zero.
--
-- An error at a reading is a mark. To the side above zero it is a low mark: an exchange lets it be
-- if it is compatible with the exchange's high mark, so that some course keeps both. To the side
-- below zero it is a high mark, and the exchanges' low marks say how far it may go. Up to some
-- number of ticks a group lets every error be, and none beyond: its leeway.
use Rattle.std.specs.Prelude.{◌≡◌, ◌↔◌, ◌⊎◌, ℕ, ◌<◌, ◌≤◌, ◌==◌, ◌-◌, ◌^◌, ℤ, pos, neg_ℤ, ◌+ℤ◌, ◌*ℤ◌, ◌≤ℤ◌, ◌<ℤ◌, Bool, ◌||◌, true, false, List, length, Some, slice_get, All, Any, count_by}
use Rattle.finder.specs.Common.{int_min, list_any, slice_index_or, Course, Fits, holds_false, are_different, ClaimData, RefutationData, group_of, servers_of, IsRefutedWithDrift, holds, AreLeastCovers, LieWithin, Groups, Interval, low_mark, high_mark, AreCompatible, Mark, Exchange, numbers_below, error_of}
use Rattle.finder.specs.NearestRefutation.{IsErrorOf64Bits, greatest_error, least_error_below}
use Rattle.finder.specs.declared.side.Side.{Side}
use Rattle.finder.specs.declared.side.Side.TheVariants.{Above, Below}

-- a number of ticks, or its negative if the clock is behind
abbrev pub turned : Side → ℤ → ℤ
turned Above ticks = ticks
turned Below ticks = neg_ℤ ticks

-- where the errors of an interval begin, on a side of zero
abbrev pub least_on : Side → Interval → ℤ
least_on Above room = room.lo
least_on Below room = neg_ℤ room.hi

-- an error at a reading, as a mark
abbrev pub mark_at : ℤ → ℤ → Mark
mark_at reading error = record { place = reading; error = error }

-- the mark of an exchange above which the error can't lie on a side: the high one, or the low one
-- of a clock whose readings and errors are the negatives
abbrev pub limit_of : Side → ℤ → Exchange → Mark
limit_of Above allowance x = high_mark allowance x
limit_of Below allowance x =
    let mark = low_mark allowance x in mark_at (neg_ℤ mark.place) (neg_ℤ mark.error)

-- an exchange lets the clock be off by so many ticks to this side when it shows the reading
abbrev pub Lets : ClaimData → Side → ℤ → ℤ → Exchange → Type 0
Lets claim Above reading ticks x =
    AreCompatible claim.drift_ppb (mark_at reading ticks) (high_mark claim.reading x)
Lets claim Below reading ticks x =
    AreCompatible claim.drift_ppb (low_mark claim.reading x) (mark_at reading (neg_ℤ ticks))

-- the first so many exchanges let it, as far as they are of this group
abbrev pub DoLet : ClaimData → List Exchange → ℕ → Side → ℤ → ℕ → ℤ → Type 0
DoLet claim xs n side reading group ticks =
    (k : ℕ) (x : Exchange) → k < n → slice_get xs k ≡ Some x → group_of claim x ≡ group
    → Lets claim side reading ticks x

-- more ticks than any group with an exchange lets be
abbrev pub no_limit : ℤ
no_limit = pos (2 ^ 127 - 1)

-- the leeway of a group, in a list of them
abbrev pub leeway_in : List ℤ → ℕ → ℤ
leeway_in leeways group = slice_index_or leeways group no_limit

-- these are the leeways of the groups by the first so many exchanges: a group lets just the errors
-- be that aren't beyond its own
pub record AreLeeways (claim : ClaimData) (xs : List Exchange) (n : ℕ) (side : Side) (reading : ℤ)
    (leeways : List ℤ) : Type 0 where
  pub exact : (group : ℕ) → group < 32 → (ticks : ℤ) → ticks <ℤ no_limit
      → (ticks ≤ℤ leeway_in leeways group) ↔ DoLet claim xs n side reading group ticks

-- a group is outside a set and has an exchange, and none that is outside has less leeway
pub record IsTightest (leeways : List ℤ) (left_out : ℕ → Bool) (group : ℕ) : Type 0 where
  pub below : group < 32
  pub outside : left_out group ≡ false
  pub limited : leeway_in leeways group <ℤ no_limit
  pub least : (other : ℕ) → other < 32 → left_out other ≡ false
      → leeway_in leeways group ≤ℤ leeway_in leeways other

-- no group outside a set has an exchange
abbrev pub IsUnlimited : List ℤ → (ℕ → Bool) → Type 0
IsUnlimited leeways left_out =
    (other : ℕ) → other < 32 → left_out other ≡ false → no_limit ≤ℤ leeway_in leeways other

-- the groups that are taken for false: a cover's, and so many more of those that let least be
pub record IsNarrowed (leeways : List ℤ) (more : ℕ) (cover found : ℕ → Bool) : Type 0 where
  pub added : List ℕ
  pub join : (group : ℕ) → found group ≡ (cover group || list_any (λ a. a == group) added)
  -- each is added once, and isn't the cover's
  pub below : All (λ a. a < 32) added
  pub once : are_different added ≡ true
  pub others : All (λ a. cover a ≡ false) added
  -- no group that is left has less leeway than one that was added
  pub least : All (λ a. (other : ℕ) → other < 32 → found other ≡ false
      → leeway_in leeways a ≤ℤ leeway_in leeways other) added
  -- fewer are added only if no group that is left has an exchange
  pub few : length added ≤ more
  pub enough : (length added ≡ more) ⊎ IsUnlimited leeways found

-- ---- what the clock is off by at a reading

-- when a course is observed, the clock is off by so many ticks to a side, or by more
abbrev pub IsOff : Side → ℤ → Course → Type 0
IsOff Above ticks course = (ticks *ℤ pos course.fineness) ≤ℤ error_of course.observation
IsOff Below ticks course = error_of course.observation ≤ℤ (neg_ℤ ticks *ℤ pos course.fineness)

-- In each course of some that fit, and is observed at the reading, the error is less than a tick
-- beyond the bound on this side.
abbrev pub HoldsFor : ClaimData → List Exchange → ℕ → Side → (Course → Type 0) → Type 0
HoldsFor claim xs reading side Among = (course : Course) → Fits claim xs course → Among course
    → course.observation.reading ≡ (pos reading *ℤ pos course.fineness)
    → ¬ (IsOff side (claim.bound +ℤ pos 1) course)

-- each of these groups holds a false server in it
abbrev pub HasFalse : ClaimData → (ℕ → Bool) → Course → Type 0
HasFalse claim cover course = LieWithin cover (holds_false claim.groups course.is_false)

-- the exchanges of all groups but these let the clock be off by so many ticks
abbrev pub DoOthersLet : ClaimData → List Exchange → Side → ℤ → (ℕ → Bool) → ℤ → Type 0
DoOthersLet claim xs side reading is_false ticks =
    (group : ℕ) → group < 32 → is_false group ≡ false
    → DoLet claim xs (length xs) side reading group ticks

-- a refutation has these groups false and the greatest error of 64 bits that all others let be,
-- which is beyond the bound
pub record IsCandidate (claim : ClaimData) (xs : List Exchange) (side : Side) (reading : ℕ)
    (is_false : ℕ → Bool) (r : RefutationData) : Type 0 where
  pub there : r.reading ≡ reading
  pub liars : r.liars ≡ servers_of claim is_false
  pub ticks : ℤ
  pub error : r.error ≡ turned side ticks
  pub in_64_bits : IsErrorOf64Bits r.error
  pub beyond_bound : claim.bound <ℤ ticks
  pub let_be : DoOthersLet claim xs side (pos reading) is_false ticks
  pub greatest : (more : ℤ) → IsErrorOf64Bits (turned side more)
      → DoOthersLet claim xs side (pos reading) is_false more → more ≤ℤ ticks

-- Rounding stands in the way. With a cover's groups false, and those that let least be, the others
-- let the clock be off by more than the bound. But an error of a refutation is a whole number of
-- ticks, of 64 bits, and with the greatest such none stands.
pub record IsRounded (claim : ClaimData) (xs : List Exchange) (cover : ℕ → Bool) (reading : ℕ)
    (side : Side) : Type 0 where
  pub is_false : ℕ → Bool
  pub leeways : List ℤ
  pub are : AreLeeways claim xs (length xs) side (pos reading) leeways
  pub narrowed :
      IsNarrowed leeways (claim.false_max - count_by cover (numbers_below 32)) cover is_false
  pub refutation : RefutationData
  pub candidate : IsCandidate claim xs side reading is_false refutation
  pub refutes_nothing : ¬ (IsRefutedWithDrift claim xs refutation)

-- The bound holds at a reading, to one side of zero, in each course that fits with a cover's groups
-- false; or rounding stands in the way.
abbrev pub IsHeld : ClaimData → List Exchange → (ℕ → Bool) → ℕ → Side → Type 0
IsHeld claim xs cover reading side =
    HoldsFor claim xs reading side (HasFalse claim cover) ⊎ IsRounded claim xs cover reading side

-- so it is at each of these readings, to both sides
abbrev pub IsHeldAtAll : ClaimData → List Exchange → List ℕ → Groups → Type 0
IsHeldAtAll claim xs readings cover =
    All (λ reading. (side : Side) → IsHeld claim xs (holds cover) reading side) readings

-- The bound holds at these readings in each course that fits, to both sides of zero; or rounding
-- stands in the way. That is so for each of these minimal covers with its groups false, and where
-- they are fewer than 64, these are all, and so it is for every course.
pub record AreHeld (claim : ClaimData) (xs : List Exchange) (readings : List ℕ) (covers : ℕ)
    : Type 0 where
  pub minimal : List Groups
  pub are : AreLeastCovers claim xs minimal
  pub count : covers ≡ length minimal
  pub with_each : All (IsHeldAtAll claim xs readings) minimal
  pub in_all : covers < 64 → All (λ reading. (side : Side) →
      HoldsFor claim xs reading side (λ _. Unit {0})
      ⊎ Any (λ cover. IsRounded claim xs (holds cover) reading side) minimal) readings

-- ---- the greatest of the leeways

-- this is the least leeway of the groups outside a set
pub record IsLimit (leeways : List ℤ) (left_out : ℕ → Bool) (most : ℤ) : Type 0 where
  pub least : (other : ℕ) → other < 32 → left_out other ≡ false
      → most ≤ℤ leeway_in leeways other
  pub met : (IsUnlimited leeways left_out × (most ≡ no_limit))
      ⊎ ((group : ℕ) × IsTightest leeways left_out group × (most ≡ leeway_in leeways group))

-- how far from zero an error of 64 bits may be
abbrev pub greatest_of : Side → ℤ
greatest_of Above = greatest_error
greatest_of Below = least_error_below

-- a group outside a set lets nothing beyond the bound be
abbrev pub IsBounded : ℤ → List ℤ → (ℕ → Bool) → Type 0
IsBounded bound leeways left_out =
    (group : ℕ) × IsTightest leeways left_out group × (leeway_in leeways group ≤ℤ bound)

-- this refutation has these groups false, and what all others let be as its error
pub record IsMade (claim : ClaimData) (side : Side) (reading : ℕ) (leeways : List ℤ)
    (left_out : ℕ → Bool) (r : RefutationData) : Type 0 where
  pub there : r.reading ≡ reading
  pub liars : r.liars ≡ servers_of claim left_out
  pub most : ℤ
  pub limit : IsLimit leeways left_out most
  pub beyond : claim.bound <ℤ most
  pub error : r.error ≡ turned side (int_min most (greatest_of side))
