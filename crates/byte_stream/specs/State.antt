-- What a feed and a sink are to their callers: a state, which each call changes.
use Rattle.std.specs.Prelude.{◌-◌, ◌^◌, ◌<◌, ℕ, List, Option, Bool, IsTrue}

-- A feed at one moment: the bytes still to come, if they are known; how many were pulled, or
-- 2^64 - 1 once they are that many; and how often it has failed.
pub record FeedState : Type 0 where
  pub remaining : Option (List ℕ)
  pub taken : ℕ
  pub faults : ℕ

-- a sink at one moment: the bytes that it holds, if they are known, whether it's open, and how
-- often it has failed
pub record SinkState : Type 0 where
  pub contents : Option (List ℕ)
  pub is_open : Bool
  pub faults : ℕ

-- A feed may be pulled from: the count of its faults has room for one more.
abbrev pub IsReadable : FeedState → Type 0
IsReadable feed = feed.faults < 2 ^ 64 - 1

-- A sink may be pushed to and finished: it's open, and the count of its faults has room for one
-- more.
pub record IsWritable (sink : SinkState) : Type 0 where
  pub is_open : IsTrue sink.is_open
  pub room : sink.faults < 2 ^ 64 - 1
