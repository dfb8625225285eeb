-- What an accepted certificate by covers shows of the stamps, in relations alone: no word is on how
-- intervals are found, moved and counted.
use Rattle.std.specs.Prelude.{◌≡◌, ℕ, ◌+◌, ◌-◌, ◌*◌, ◌≤◌, ℤ, pos, ◌-ℤ◌, ◌*ℤ◌, ◌≤ℤ◌, ◌<ℤ◌, ◌⊎◌, unsigned_abs, Bool, false, List, Some, slice_get, All}
use Rattle.cover_checker.specs.Common.{CaseData, ClaimData, CoverCertificateData, Exchange, IsInWindow, LieWithin, Mark, PieceData, Stretch, begin_of, billion, group_of, high_mark, low_mark, size_of}
use Rattle.cover_checker.specs.Conflict.{HoldsEnd, IsConflict, names}
use Rattle.cover_checker.specs.Interval.{ahead}

-- the error may fall by so many ticks while the clock goes from one reading on to another, rounded
-- up to a tick
abbrev pub MayFallBy : ClaimData → ℤ → ℤ → ℤ → Type 0
MayFallBy claim from to ticks = ((ticks -ℤ pos 1) *ℤ pos (billion - claim.drift_ppb))
    <ℤ pos (claim.drift_ppb * unsigned_abs (ahead from to))

-- it may rise by so many
abbrev pub MayRiseBy : ClaimData → ℤ → ℤ → ℤ → Type 0
MayRiseBy claim from to ticks = ((ticks -ℤ pos 1) *ℤ pos (billion + claim.drift_ppb))
    <ℤ pos (claim.drift_ppb * unsigned_abs (ahead from to))

-- The error may be this at a reading of the stretch, by a low mark: it isn't below the mark, but
-- for what it may have fallen by since, up to the stretch's end, or has yet to rise by from its
-- begin.
abbrev pub LowLeavesRoom : ClaimData → Stretch → Mark → ℤ → Type 0
LowLeavesRoom claim stretch mark error =
    MayFallBy claim mark.place stretch.end (mark.error -ℤ error)
    ⊎ MayRiseBy claim stretch.begin mark.place (mark.error -ℤ error)

-- by a high mark: it isn't above the mark, but for what it may have risen by since, or has yet to
-- fall by
abbrev pub HighLeavesRoom : ClaimData → Stretch → Mark → ℤ → Type 0
HighLeavesRoom claim stretch mark error =
    MayRiseBy claim mark.place stretch.end (error -ℤ mark.error)
    ⊎ MayFallBy claim stretch.begin mark.place (error -ℤ mark.error)

-- Entries admit an error, in ticks, over a stretch of readings, if the groups that are left out are
-- wrong: these are among at most `false_max` wrong ones, and each entry of another group leaves
-- room for the error, by the low mark of the one exchange and the high mark of the other.
pub record Admit (claim : ClaimData) (xs : List Exchange) (out : ℕ → Bool) (stretch : Stretch)
    (entries : List (ℕ × ℕ)) (error : ℤ) : Type 0 where
  pub is_wrong : ℕ → Bool
  pub few : size_of claim is_wrong ≤ claim.false_max
  pub left_out : LieWithin out is_wrong
  pub room : (j a b : ℕ) (x y : Exchange) → slice_get entries j ≡ Some (a, b)
      → slice_get xs a ≡ Some x → slice_get xs b ≡ Some y → is_wrong (group_of claim x) ≡ false
      → LowLeavesRoom claim stretch (low_mark claim.reading x) error
      × HighLeavesRoom claim stretch (high_mark claim.reading y) error

-- At a reading, a whole number of 1/n tick, the error is within the bound if just these groups are
-- wrong: they hold all groups of a case, and a piece of it that holds the reading admits some error
-- and none beyond the bound.
pub record BoundsAt (claim : ClaimData) (xs : List Exchange) (cases : List CaseData) (n : ℕ)
    (reading : ℤ) (is_wrong : ℕ → Bool) : Type 0 where
  pub c : ℕ
  pub case : CaseData
  pub case_stands : slice_get cases c ≡ Some case
  pub are_wrong : LieWithin (names case) is_wrong
  pub k : ℕ
  pub piece : PieceData
  pub piece_stands : slice_get case.pieces k ≡ Some piece
  pub stretch : Stretch
  pub begins : stretch.begin ≡ begin_of claim.first case.pieces k
  pub ends : stretch.end ≡ pos piece.upto
  pub holds_reading : IsInWindow n stretch.begin stretch.end reading
  pub error : ℤ
  pub admitted : Admit claim xs (names case) stretch piece.entries error
  pub none_beyond : (e : ℤ) → Admit claim xs (names case) stretch piece.entries e
      → pos (unsigned_abs e) ≤ℤ claim.bound

-- Each pair that the certificate names is a conflict. And at each reading of the span, whichever
-- few groups are wrong, if they have an end of each conflict the error is within the bound.
pub record BoundSpan (claim : ClaimData) (xs : List Exchange) (certificate : CoverCertificateData)
    : Type 0 where
  pub conflicts : All (IsConflict claim xs) certificate.conflicts
  pub each : (n : ℕ) (reading : ℤ) (is_wrong : ℕ → Bool)
      → IsInWindow n claim.first claim.last reading → size_of claim is_wrong ≤ claim.false_max
      → All (HoldsEnd claim xs is_wrong) certificate.conflicts
      → BoundsAt claim xs certificate.cases n reading is_wrong
