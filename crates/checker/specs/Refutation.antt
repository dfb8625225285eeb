-- Evidence against a claim: an error beyond the bound, by which the clock may have been off.
--
-- A refutation names an error, the servers that have to be false for it, and a reading of the span.
-- It is accepted by inequalities on the stamps of the exchanges alone. They stand for a course of
-- events in which just the named servers are false and the clock is off by that one error at each
-- of its moments. A clock whose error changes isn't looked for.
--
-- Why these six: an exchange has four moments, one after another (RFC 5905, section 8). With an
-- error E, the client sends no sooner than w - E, with w for its least reading then, and receives
-- no later than z - E, with z for its greatest reading then. The server receives within R of T2 and
-- sends within R of T3. Four such moments exist exactly if none of them has to come after one of
-- the later ones.
use Rattle.std.specs.Prelude.{◌≡◌, ◌≢◌, ℕ, ◌<◌, ◌≤◌, ◌==◌, ℤ, pos, ◌+ℤ◌, ◌-ℤ◌, ◌*ℤ◌, ◌≤ℤ◌, ◌<ℤ◌, unsigned_abs, Bool, false, List, length, Some, slice_get, All, AllPairs}
use Rattle.checker.specs.Common.{list_any, RefutationData, ClaimData, Exchange, Moment, error_of, request_start, reply_end}
use Rattle.checker.specs.Course.{Course, Fits, FitsInWindows, IsClientMoment}
use Rattle.checker.specs.Groups.{false_group_count}
use Rattle.checker.specs.Traceability.{IsObservedIn}

-- a server is one of those that are named as false
abbrev pub is_liar : List ℕ → ℕ → Bool
is_liar liars server = list_any (λ liar. liar == server) liars

-- one exchange leaves room for an error: the client's least reading at the request, its greatest at
-- the reply, the server's two timestamps, the root distance, and the error
pub record AdmitsError (start end t2 t3 distance error : ℤ) : Type 0 where
  -- the request leaves before the server receives it
  pub leaves_before_receipt : (start -ℤ error) ≤ℤ (t2 +ℤ distance)
  -- and before the server answers
  pub leaves_before_answer : (start -ℤ error) ≤ℤ (t3 +ℤ distance)
  -- and before the reply arrives
  pub leaves_before_arrival : start ≤ℤ end
  -- the server receives before it answers
  pub receives_before_answer : (t2 -ℤ distance) ≤ℤ (t3 +ℤ distance)
  -- and before the reply arrives
  pub receives_before_arrival : (t2 -ℤ distance) ≤ℤ (end -ℤ error)
  -- the server answers before the reply arrives
  pub answers_before_arrival : (t3 -ℤ distance) ≤ℤ (end -ℤ error)

-- an exchange leaves room for an error, with a claim's allowance
abbrev pub Admits : ℤ → ℤ → Exchange → Type 0
Admits allowance error x =
    AdmitsError (request_start x allowance) (reply_end x allowance) x.t2 x.t3 x.distance error

-- what a refutation says by itself is against the claim: its error is beyond the bound to one side
-- or the other, its reading lies in the span, and few enough servers are named, each once
pub record IsAgainst (claim : ClaimData) (refutation : RefutationData) : Type 0 where
  pub beyond_bound : claim.bound <ℤ pos (unsigned_abs refutation.error)
  pub in_span : (claim.first ≤ℤ pos refutation.reading) × (pos refutation.reading ≤ℤ claim.last)
  pub liars_listed : All (λ liar. liar < length claim.servers) refutation.liars
  pub liars_differ : AllPairs (λ a b. a ≢ b) refutation.liars
  -- they are of at most `false_max` groups
  pub few_false : false_group_count claim.groups (is_liar refutation.liars) ≤ claim.false_max

-- a claim is refuted by exchanges and a refutation: what it says is against the claim, and each
-- exchange of a server that it doesn't name leaves room for its error
pub record IsRefuted (claim : ClaimData) (xs : List Exchange) (refutation : RefutationData)
    : Type 0 where
  pub against : IsAgainst claim refutation
  pub admits : All
      (λ x. is_liar refutation.liars x.server ≡ false → Admits claim.reading refutation.error x) xs

-- ---- the courses that it stands for

-- the exchanges of one request share its moment
abbrev pub SharesRequests : List Exchange → Course → Type 0
SharesRequests xs course =
    (i j : ℕ) (x y : Exchange) → slice_get xs i ≡ Some x → slice_get xs j ≡ Some y
    → x.request ≡ y.request → course.request i ≡ course.request j

-- just the servers that a refutation names are false, and the error is the one that it names at
-- every moment of the client
pub record IsOffThroughout (xs : List Exchange) (refutation : RefutationData) (course : Course)
    : Type 0 where
  pub just_liars_false : (server : ℕ) → course.is_false server ≡ is_liar refutation.liars server
  pub one_error : (moment : Moment) → IsClientMoment course (length xs) moment
      → error_of moment ≡ (refutation.error *ℤ pos course.fineness)

-- a course shows a refutation: no server is false but those that it names, maybe not all of them,
-- and the error is the one that it names at every moment of the client
pub record ShowsThroughout (claim : ClaimData) (xs : List Exchange) (refutation : RefutationData)
    (course : Course) : Type 0 where
  pub fits : Fits claim xs course
  pub others_true : (server : ℕ) → is_liar refutation.liars server ≡ false
      → course.is_false server ≡ false
  pub one_error : (moment : Moment) → IsClientMoment course (length xs) moment
      → error_of moment ≡ (refutation.error *ℤ pos course.fineness)

-- a course that a refutation stands for
pub record IsCourseOf (claim : ClaimData) (xs : List Exchange) (refutation : RefutationData)
    (course : Course) : Type 0 where
  pub fits : FitsInWindows claim xs course
  pub off_throughout : IsOffThroughout xs refutation course
  pub shares_requests : SharesRequests xs course
  pub observed : course.observation.reading ≡ (pos refutation.reading *ℤ pos course.fineness)

-- there is one
abbrev pub HasCourse : ClaimData → List Exchange → RefutationData → Type 0
HasCourse claim xs refutation = (course : Course) × IsCourseOf claim xs refutation course

-- some course fits exchanges and a claim, and has its observation in the claim's span. So what is
-- said about all such courses is said about at least one.
abbrev pub SomeCourseFits : ClaimData → List Exchange → Type 0
SomeCourseFits claim xs =
    (course : Course) × FitsInWindows claim xs course × IsObservedIn course claim.first claim.last
