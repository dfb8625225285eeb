-- What may have happened while a capture was made.
--
-- A capture shows requests and replies. It doesn't show at which true times they left and arrived,
-- how far the client's clock was off then, or which servers are false. A course of events fills all
-- that in. A claim that is to be traced to a capture has to hold in every course that fits it.
--
-- A request may leave any time after its stamp, and a reply may arrive any time before its own: by
-- how much costs nothing. Courses that are said to exist keep to both sides of each window.
--
-- The four moments of an exchange are those of RFC 5905, section 8: the client sends (T1), the
-- server receives (T2), the server sends (T3), the client receives (T4). Of the server's two no
-- more is asked than that they come in this order between the others. The client's clock is read at
-- the first and the last, and once more when it is observed. Error is reading less true time.
--
-- Moments needn't fall on whole ticks of 2^-32 s: all times and readings are whole numbers of 1/N
-- tick, counted from 1970, for a fineness N. What holds for every fineness holds for every
-- fraction. Nothing orders the moments of different exchanges.
use Rattle.std.specs.Prelude.{◌≡◌, ℕ, ◌<◌, ◌≤◌, ℤ, pos, ◌*ℤ◌, ◌≤ℤ◌, ◌⊎◌, Bool, false, List, length, Some, slice_get}
use Rattle.checker.specs.Common.{ClaimData, Exchange, Moment, DriftsWithin, IsInWindow, IsWithinDistance, request_start, request_end, reply_start, reply_end}
use Rattle.checker.specs.Groups.{false_group_count}

-- a course of events; exchanges and servers go by their numbers
pub record Course : Type 0 where
  -- how many parts a tick has
  pub fineness : ℕ
  -- which servers are false: what they say may be anything
  pub is_false : ℕ → Bool
  -- of each exchange, the client's moment at the request: true time and the clock's reading
  pub request : ℕ → Moment
  -- the true time that the server's receive timestamp stands for
  pub received : ℕ → ℤ
  -- the true time that its transmit timestamp stands for
  pub sent : ℕ → ℤ
  -- the client's moment at the reply
  pub reply : ℕ → Moment
  -- a moment at which the client's clock is observed
  pub observation : Moment

-- a moment of the client: the observation, or a request or a reply of this many exchanges
abbrev pub IsClientMoment : Course → ℕ → Moment → Type 0
IsClientMoment course count moment =
    (moment ≡ course.observation)
    ⊎ ((k : ℕ) × (k < count) × ((moment ≡ course.request k) ⊎ (moment ≡ course.reply k)))

-- this holds of each exchange and its number
abbrev pub OfEach : List Exchange → (ℕ → Exchange → Type 0) → Type 0
OfEach xs P = (k : ℕ) (x : Exchange) → slice_get xs k ≡ Some x → P k x

-- this holds of each exchange with a server that isn't false, and its number
abbrev pub OfEachTrue : List Exchange → Course → (ℕ → Exchange → Type 0) → Type 0
OfEachTrue xs course P =
    (k : ℕ) (x : Exchange) → slice_get xs k ≡ Some x → course.is_false x.server ≡ false → P k x

-- an exchange's request left no earlier than its stamp allows: the clock read at least the start of
-- the record's window
abbrev pub LeavesAfterStamp : ℤ → Course → ℕ → Exchange → Type 0
LeavesAfterStamp allowance course k x =
    (request_start x allowance *ℤ pos course.fineness) ≤ℤ (course.request k).reading

-- its reply arrived no later than its stamp allows: the clock read at most the end of the window
abbrev pub ArrivesBeforeStamp : ℤ → Course → ℕ → Exchange → Type 0
ArrivesBeforeStamp allowance course k x =
    (course.reply k).reading ≤ℤ (reply_end x allowance *ℤ pos course.fineness)

-- what the clock read at an exchange's request and reply lies in the windows of their records
abbrev pub ReadsInWindows : ℤ → Course → ℕ → Exchange → Type 0
ReadsInWindows allowance course k x =
    IsInWindow course.fineness (request_start x allowance) (request_end x allowance)
    (course.request k).reading
    × IsInWindow course.fineness (reply_start x allowance) (reply_end x allowance)
    (course.reply k).reading

-- the request leaves, then come the two times of the server, and then the reply arrives
abbrev pub ComesInOrder : Course → ℕ → Exchange → Type 0
ComesInOrder course k x =
    ((course.request k).time ≤ℤ course.received k)
    × (course.received k ≤ℤ course.sent k)
    × (course.sent k ≤ℤ (course.reply k).time)

-- the server's two timestamps are within its announced root distance of these true times
abbrev pub KeepsRootDistance : Course → ℕ → Exchange → Type 0
KeepsRootDistance course k x =
    IsWithinDistance course.fineness x.t2 x.distance (course.received k)
    × IsWithinDistance course.fineness x.t3 x.distance (course.sent k)

-- the course is one that may have given these exchanges, under what the claim grants
pub record Fits (claim : ClaimData) (xs : List Exchange) (course : Course) : Type 0 where
  -- a tick has at least one part
  pub some_fineness : 0 < course.fineness
  -- at most `false_max` groups hold a false server
  pub few_false : false_group_count claim.groups course.is_false ≤ claim.false_max
  -- no request left before its stamp by more than the claimed allowance
  pub leaves_after_stamp : OfEach xs (LeavesAfterStamp claim.reading course)
  -- no reply arrived after its stamp by more than that
  pub arrives_before_stamp : OfEach xs (ArrivesBeforeStamp claim.reading course)
  -- between any two moments of the client its error changes by the claimed rate at most
  pub drift : (a b : Moment) → IsClientMoment course (length xs) a
      → IsClientMoment course (length xs) b → DriftsWithin claim.drift_ppb a b
  -- of a server that isn't false there are two true times, in their order, after the request left
  -- and before the reply arrived
  pub ordered : OfEachTrue xs course (ComesInOrder course)
  -- to which its two timestamps are as near as it announces
  pub within_root_distance : OfEachTrue xs course (KeepsRootDistance course)

-- The course fits, and each record time is right to either side, within its unit and the claimed
-- allowance. What exists, exists in this narrower sense.
pub record FitsInWindows (claim : ClaimData) (xs : List Exchange) (course : Course) : Type 0 where
  pub fits : Fits claim xs course
  pub in_windows : OfEach xs (ReadsInWindows claim.reading course)
