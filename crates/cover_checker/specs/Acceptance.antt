-- What it takes that a certificate by covers is accepted.
--
-- Each pair that it names is a conflict. Whatever few groups have an end of each hold all groups of
-- one of its cases. And each case's pieces show the claim by the other groups, of which as many
-- fewer may hold a false server.
use Rattle.std.specs.Prelude.{◌≡◌, ℕ, ◌-◌, ◌<◌, ℤ, pos, neg_ℤ, ◌≤ℤ◌, Bool, List, [], length, None, Some, Ok, All, slice_get}
use Rattle.cover_checker.specs.Common.{CaseData, ClaimData, CoverCertificateData, Exchange, IsHull, Bounded, Part, PieceData, Stretch, begin_of, last_end, group_intervals, size_of}
use Rattle.cover_checker.specs.Case.{cases_why}
use Rattle.cover_checker.specs.Conflict.{AreAnswered, IsConflict, names}
use Rattle.cover_checker.specs.Entry.{parts_after}

-- the entries show that the error is within the bound over a stretch, if the groups that are left
-- out hold false servers
pub record ShowBound (claim : ClaimData) (xs : List Exchange) (out : ℕ → Bool) (stretch : Stretch)
    (entries : List (ℕ × ℕ)) : Type 0 where
  -- the stretch doesn't end before it begins, or after the span
  pub forward : stretch.begin ≤ℤ stretch.end
  pub in_span : stretch.end ≤ℤ claim.last
  -- each entry is of one server, which no other entry is of, of a group that isn't left out
  pub parts : List Part
  pub said : parts_after claim xs out stretch [] entries ≡ Ok parts
  -- the hull over the groups is bounded, and lies inside the bound to either side
  pub lo : ℤ
  pub hi : ℤ
  pub hull : IsHull (group_intervals claim.groups parts) (claim.false_max - size_of claim out)
      (Bounded lo hi)
  pub above : neg_ℤ claim.bound ≤ℤ lo
  pub below : hi ≤ℤ claim.bound

-- a case's pieces share their ends, and together they are the span; each shows the bound
pub record CaseHolds (claim : ClaimData) (xs : List Exchange) (case : CaseData) : Type 0 where
  pub some_piece : 0 < length case.pieces
  pub ends_with_span : last_end claim.first case.pieces ≡ claim.last
  pub each : (k : ℕ) (piece : PieceData) → slice_get case.pieces k ≡ Some piece
      → ShowBound claim xs (names case)
      (record { begin = begin_of claim.first case.pieces k; end = pos piece.upto }) piece.entries

-- the certificate is accepted
pub record IsAccepted (claim : ClaimData) (xs : List Exchange) (certificate : CoverCertificateData)
    : Type 0 where
  pub conflicts : All (IsConflict claim xs) certificate.conflicts
  pub some_case : 0 < length certificate.cases
  pub fit : cases_why claim [] certificate.cases ≡ None
  pub answered : AreAnswered claim xs certificate
  pub each : All (CaseHolds claim xs) certificate.cases
