-- What a certificate by covers needs of a course of events.
--
-- Only the exchanges count that are named. A course may do as it likes before the first of their
-- moments and after the last, and other servers may be false as they like.
use Rattle.std.specs.Prelude.{◌≡◌, ℕ, ◌<◌, ◌≤◌, ◌⊎◌, Bool, true, false, List, Some, slice_get}
use Rattle.cover_checker.specs.Common.{ArrivesBeforeStamp, ClaimData, ComesInOrder, Course, DriftsWithin, Exchange, KeepsRootDistance, LeavesAfterStamp, Moment, group_of, size_of}

-- this holds of each exchange that is named, and its number
abbrev pub OfEachNamed : List Exchange → (ℕ → Type 0) → (ℕ → Exchange → Type 0) → Type 0
OfEachNamed xs Named P =
    (k : ℕ) (x : Exchange) → Named k → slice_get xs k ≡ Some x → P k x

-- a moment of the client that counts: the observation, or the request or reply of a named exchange
abbrev pub IsNamedMoment : List Exchange → (ℕ → Type 0) → Course → Moment → Type 0
IsNamedMoment xs Named course moment = (moment ≡ course.observation)
    ⊎ ((k : ℕ) × (x : Exchange) × Named k × (slice_get xs k ≡ Some x)
    × ((moment ≡ course.request k) ⊎ (moment ≡ course.reply k)))

-- some of the groups are wrong, at most as many as the claim allows for, and each false server of a
-- named exchange is in one of these
pub record HasFewFalse (claim : ClaimData) (xs : List Exchange) (Named : ℕ → Type 0)
    (course : Course) : Type 0 where
  pub is_wrong : ℕ → Bool
  pub few : size_of claim is_wrong ≤ claim.false_max
  pub in_wrong_group : OfEachNamed xs Named (λ k x. course.is_false x.server ≡ true
      → is_wrong (group_of claim x) ≡ true)

-- the course is one that may have given the named exchanges, under what the claim grants
pub record FitsNamed (claim : ClaimData) (xs : List Exchange) (Named : ℕ → Type 0)
    (course : Course) : Type 0 where
  pub some_fineness : 0 < course.fineness
  pub few_false : HasFewFalse claim xs Named course
  pub leaves_after_stamp : OfEachNamed xs Named (LeavesAfterStamp claim.reading course)
  pub arrives_before_stamp : OfEachNamed xs Named (ArrivesBeforeStamp claim.reading course)
  -- between any two moments that count the error changes by the claimed rate at most
  pub drift : (a b : Moment) → IsNamedMoment xs Named course a → IsNamedMoment xs Named course b
      → DriftsWithin claim.drift_ppb a b
  -- what a server says that isn't false
  pub ordered : OfEachNamed xs Named
      (λ k x. course.is_false x.server ≡ false → ComesInOrder course k x)
  pub within_root_distance : OfEachNamed xs Named
      (λ k x. course.is_false x.server ≡ false → KeepsRootDistance course k x)
