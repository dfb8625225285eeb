-- Refutations of which the clock may drift.
--
-- A refutation names an error, the servers that have to be false for it, and a reading of the span.
-- It is accepted if some course of events shows it: one in which no server is false but these, the
-- error drifts as the claim grants, and at the reading it is the refutation's. Whether there is one
-- is settled by pairs of marks: what the refutation says is a low mark and a high mark of its own.
use Rattle.std.specs.Prelude.{◌≡◌, ℕ, pos, ◌*ℤ◌, Bool, false, List, ◌∷◌, All}
use Rattle.feasibility.specs.Common.{RefutationData, Course, Fits, FitsInWindows, is_liar, IsAgainst, SharesRequests, ClaimData, low_mark, high_mark, IsPossible, AreCompatible, Mark, Exchange, error_of}
use Rattle.feasibility.specs.Cover.{is_of}
use Rattle.feasibility.specs.TrueMarks.{true_exchanges, low_marks, high_marks, AreAllCompatible, DoAgree}

-- the mark that a refutation sets: its error at its reading
abbrev pub mark_of : RefutationData → Mark
mark_of refutation = record { place = pos refutation.reading; error = refutation.error }

-- a claim is refuted by exchanges and a refutation, with a clock that drifts as the claim grants
pub record IsRefutedWithDrift (claim : ClaimData) (xs : List Exchange)
    (refutation : RefutationData) : Type 0 where
  -- what it says by itself is against the claim
  pub against : IsAgainst claim refutation
  -- with just its liars false, no exchange is impossible and no two marks contradict each other
  pub agree : DoAgree claim (is_liar refutation.liars) xs
  -- its own mark, as a low one, is compatible with each high mark
  pub reading_low : All (AreCompatible claim.drift_ppb (mark_of refutation))
      (high_marks claim.reading (is_liar refutation.liars) xs)
  -- and as a high one with each low mark
  pub reading_high : All (λ low. AreCompatible claim.drift_ppb low (mark_of refutation))
      (low_marks claim.reading (is_liar refutation.liars) xs)

-- the same with its own mark among the others, as a low one and as a high one
pub record IsRefutedByMarks (claim : ClaimData) (xs : List Exchange) (refutation : RefutationData)
    : Type 0 where
  pub against : IsAgainst claim refutation
  pub possible : All (IsPossible claim.reading) (true_exchanges (is_liar refutation.liars) xs)
  pub compatible : AreAllCompatible claim.drift_ppb
      (mark_of refutation ∷ low_marks claim.reading (is_liar refutation.liars) xs)
      (mark_of refutation ∷ high_marks claim.reading (is_liar refutation.liars) xs)

-- a mark, as a low one and as a high one, is compatible with both marks of an exchange
pub record IsCompatibleWith (claim : ClaimData) (mark : Mark) (x : Exchange) : Type 0 where
  pub as_low : AreCompatible claim.drift_ppb mark (high_mark claim.reading x)
  pub as_high : AreCompatible claim.drift_ppb (low_mark claim.reading x) mark

-- so it is with the marks of each exchange with a server of a group outside a set
abbrev pub IsCompatibleOutside : ClaimData → List Exchange → (ℕ → Bool) → Mark → Type 0
IsCompatibleOutside claim xs is_in mark =
    All (IsCompatibleWith claim mark) (true_exchanges (is_of claim is_in) xs)

-- ---- the courses that it stands for

-- when it is observed, the clock shows the refutation's reading and is off by its error
pub record IsObservedOff (refutation : RefutationData) (course : Course) : Type 0 where
  pub reading : course.observation.reading ≡ (pos refutation.reading *ℤ pos course.fineness)
  pub error : error_of course.observation ≡ (refutation.error *ℤ pos course.fineness)

-- a course that shows a refutation: it fits, no server is false but those that are named, though
-- these needn't be, and the clock is observed as the refutation says
pub record Shows (claim : ClaimData) (xs : List Exchange) (refutation : RefutationData)
    (course : Course) : Type 0 where
  pub fits : Fits claim xs course
  pub others_true : (server : ℕ) → is_liar refutation.liars server ≡ false
      → course.is_false server ≡ false
  pub observed : IsObservedOff refutation course

-- there is one in which just the named servers are false, and the exchanges of one request share
-- its moment
pub record HasDriftCourse (claim : ClaimData) (xs : List Exchange) (refutation : RefutationData)
    : Type 0 where
  pub course : Course
  pub fits : FitsInWindows claim xs course
  pub just_liars_false : (server : ℕ) → course.is_false server ≡ is_liar refutation.liars server
  pub shares_requests : SharesRequests xs course
  pub observed : IsObservedOff refutation course
