-- What one piece of a certificate needs of a course of events.
--
-- Each entry of a piece names two exchanges of a server: it uses the request of the one for the low
-- end of the server's interval, and the reply of the other for the high end. Besides these moments
-- only the observation counts, at any reading of the piece. So a course may do as it likes before
-- the first of them all and after the last: the clock may be stepped then, and servers may be false
-- in another hour, other ones for each piece. A step between a moment that is used and the
-- observation does count, as between the last exchange named and the end of the piece: a course
-- that is observed after such a step doesn't fit.
use Rattle.std.specs.Prelude.{◌≡◌, ℕ, ◌<◌, ◌≤◌, pos, ◌+ℤ◌, ◌-ℤ◌, ◌*ℤ◌, ◌≤ℤ◌, Bool, true, false, List, length, count_by, slice_get, Some}
use Rattle.checker.specs.Common.{range_with_len, ClaimData, Exchange, DriftsWithin, IsWithinDistance}
use Rattle.checker.specs.Course.{Course}

-- this holds of each entry: of the number and the exchange for its low end, and of those for its
-- high end
abbrev pub OfEachEntry :
    List Exchange → List (ℕ × ℕ) → (ℕ → Exchange → ℕ → Exchange → Type 0) → Type 0
OfEachEntry xs entries P = (j a b : ℕ) (x y : Exchange) → slice_get entries j ≡ Some (a, b)
    → slice_get xs a ≡ Some x → slice_get xs b ≡ Some y → P a x b y

-- this holds of each entry with a server that isn't false
abbrev pub OfEachTrueEntry :
    List Exchange → List (ℕ × ℕ) → Course → (ℕ → Exchange → ℕ → Exchange → Type 0) → Type 0
OfEachTrueEntry xs entries course P = OfEachEntry xs entries
    (λ a x b y. course.is_false x.server ≡ false → course.is_false y.server ≡ false → P a x b y)

-- some of the groups are wrong, at most as many as the claim allows for, and each false server that
-- has an entry is in one of these
pub record HasFewFalse (claim : ClaimData) (xs : List Exchange) (entries : List (ℕ × ℕ))
    (course : Course) : Type 0 where
  pub is_wrong : ℕ → Bool
  pub few : count_by is_wrong (range_with_len 0 (length claim.groups)) ≤ claim.false_max
  pub in_wrong_group : OfEachEntry xs entries (λ a x b y. course.is_false x.server ≡ true
      → (group : ℕ) → slice_get claim.groups x.server ≡ Some group → is_wrong group ≡ true)

-- the course is one that may have given what these entries use of these exchanges, under what the
-- claim grants
pub record FitsPiece (claim : ClaimData) (xs : List Exchange) (entries : List (ℕ × ℕ))
    (course : Course) : Type 0 where
  -- a tick has at least one part
  pub some_fineness : 0 < course.fineness
  -- the false servers that have an entry are of at most `false_max` groups
  pub few_false : HasFewFalse claim xs entries course
  -- no request that is used left before its stamp by more than the claimed allowance
  pub leaves_after_stamp : OfEachEntry xs entries (λ a x b y.
      ((x.t1_low -ℤ claim.reading) *ℤ pos course.fineness) ≤ℤ (course.request a).reading)
  -- no reply that is used arrived after its stamp by more than that
  pub arrives_before_stamp : OfEachEntry xs entries (λ a x b y.
      (course.reply b).reading ≤ℤ ((y.t4_high +ℤ claim.reading) *ℤ pos course.fineness))
  -- from each moment that is used to the observation the error changes by the claimed rate at most
  pub drift : OfEachEntry xs entries (λ a x b y.
      DriftsWithin claim.drift_ppb (course.request a) course.observation
      × DriftsWithin claim.drift_ppb (course.reply b) course.observation)
  -- of a server that isn't false there is a true time after the request left, and one before the
  -- reply arrived
  pub ordered : OfEachTrueEntry xs entries course (λ a x b y.
      ((course.request a).time ≤ℤ course.received a) × (course.sent b ≤ℤ (course.reply b).time))
  -- to which its timestamps are as near as it announces
  pub within_root_distance : OfEachTrueEntry xs entries course (λ a x b y.
      IsWithinDistance course.fineness x.t2 x.distance (course.received a)
      × IsWithinDistance course.fineness y.t3 y.distance (course.sent b))
