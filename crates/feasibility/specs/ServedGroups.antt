-- Exchanges that are no evidence: no more groups have one than may be false.
--
-- Then every server that was heard may be false, and nothing that it says has to be so. Whatever
-- the error, at any reading of the clock, there is a course of events that fits, so the exchanges
-- say nothing about the clock.
use Rattle.std.specs.Prelude.{◌≡◌, ℕ, ◌≤◌, ◌==◌, ℤ, pos, ◌*ℤ◌, Bool, List, slice_index, AllPairs}
use Rattle.feasibility.specs.Common.{list_any, Course, FitsInWindows, SharesRequests, ClaimData, SameRequest, Exchange, error_of}
use Rattle.feasibility.specs.Cover.{group_of, size_of}

-- a group has an exchange: one with a server of it is listed
abbrev pub has_exchange : ClaimData → List Exchange → ℕ → Bool
has_exchange claim xs group = list_any (λ x. group == group_of claim x) xs

-- how many groups have one
abbrev pub count_with_exchange : ClaimData → List Exchange → ℕ
count_with_exchange claim xs = size_of claim (has_exchange claim xs)

-- a course fits by which the clock is off by this error, in ticks, when it shows this reading. Just
-- the servers of groups that have an exchange are false, and the exchanges of one request share its
-- moment.
pub record IsPossibleError (claim : ClaimData) (xs : List Exchange) (reading error : ℤ)
    : Type 0 where
  pub course : Course
  pub fits : FitsInWindows claim xs course
  pub observed : course.observation.reading ≡ (reading *ℤ pos course.fineness)
  pub off : error_of course.observation ≡ (error *ℤ pos course.fineness)
  pub just_heard_false : (server : ℕ)
      → course.is_false server ≡ has_exchange claim xs (slice_index claim.groups server)
  pub shares_requests : AllPairs SameRequest xs → SharesRequests xs course

-- so many groups have an exchange, no more than may be false; and so every error is possible, at
-- every reading
pub record IsNoEvidence (claim : ClaimData) (xs : List Exchange) (groups : ℕ) : Type 0 where
  pub counted : groups ≡ count_with_exchange claim xs
  pub few : groups ≤ claim.false_max
  pub any_error : (reading error : ℤ) → IsPossibleError claim xs reading error
