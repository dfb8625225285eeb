-- What is made of minimal covers: the parts of a certificate, or why there is none.
use Rattle.std.specs.Prelude.{◌≡◌, ◌⊎◌, ℕ, ◌+◌, ◌≤◌, List, length, map, filter, Option, Some, MatchOption, slice_get, sum_by, Vec}
use Rattle.std.specs.Global.{Global}
use Rattle.cover_finder.specs.Common.{AreAllConflicts, Case, CaseData, ClaimData, Exchange, Groups, HasSmallCover, PieceData, ShownConflict, case_data, holds, max_pieces, numbers_below}
use Rattle.cover_finder.specs.Open.{AreLongest}
use Rattle.cover_finder.specs.Reach.{AllShowBound, AreFull, ReachEnd, StopUnshown, ends_of}

-- the numbers of these groups
abbrev pub numbers_of : ClaimData → Groups → List ℕ
numbers_of claim out = filter (holds out) (numbers_below (length claim.groups))

-- the numbers of the exchanges that show a conflict
abbrev pub pair_of : ShownConflict → ℕ × ℕ
pair_of conflict = (conflict.pair.low, conflict.pair.high)

-- how many pieces cases have in all
abbrev pub pieces_in : List CaseData → ℕ
pieces_in cases = sum_by (λ case. length case.pieces) cases

module _ (claim : ClaimData) (xs : List Exchange) where
  -- pairs of exchanges are those of all conflicts
  pub record NameAllConflicts (pairs : List (ℕ × ℕ)) : Type 0 where
    pub conflicts : List ShownConflict
    pub all : AreAllConflicts claim xs conflicts
    pub are : pairs ≡ map pair_of conflicts

  -- A case names these groups. Its pieces are the longest by the others, reach the span's end, and
  -- each shows the bound.
  pub record IsCaseOf (out : Groups) (case : CaseData) : Type 0 where
    pub groups : case.groups ≡ numbers_of claim out
    pub longest : AreLongest claim xs (holds out) claim.first (ends_of case.pieces)
    pub reach : ReachEnd claim (ends_of case.pieces)
    pub show : AllShowBound claim xs (holds out) case.pieces

  -- cases are those of the first of these sets of groups, one after another
  abbrev pub AreCasesOf : List Groups → List CaseData → Type 0
  AreCasesOf covers cases = (k : ℕ) (out : Groups) (case : CaseData)
      → slice_get covers k ≡ Some out → slice_get cases k ≡ Some case → IsCaseOf out case

  -- cases are those of all these sets, and have no more pieces than may be
  pub record AreAllCasesOf (covers : List Groups) (cases : List CaseData) : Type 0 where
    pub same_number : length cases ≡ length covers
    pub are : AreCasesOf covers cases
    pub few : pieces_in cases ≤ max_pieces

  -- the pieces of the case of one of these sets stop at a tick that isn't shown
  pub record HasUnshown (covers : List Groups) : Type 0 where
    pub number : ℕ
    pub out : Groups
    pub stands : slice_get covers number ≡ Some out
    pub pieces : List PieceData
    pub readings : List ℕ
    pub stops : StopUnshown claim xs (holds out) (ends_of pieces) readings

  -- The cases of the first of these sets have so many pieces that those of the next one don't reach
  -- the span's end, if there are as many as may be.
  pub record HasTooMany (covers : List Groups) : Type 0 where
    pub cases : List CaseData
    pub are : AreCasesOf covers cases
    pub out : Groups
    pub stands : slice_get covers (length cases) ≡ Some out
    pub pieces : List PieceData
    pub longest : AreLongest claim xs (holds out) claim.first (ends_of pieces)
    pub left : ℕ
    pub full : AreFull claim left (ends_of pieces)
    pub as_many : pieces_in cases + left ≡ max_pieces

  -- the pieces of some case stop short of the span's end
  abbrev pub StopShort : List Groups → Type 0
  StopShort covers = HasUnshown covers ⊎ HasTooMany covers

  -- there is a case for each of these sets, or the pieces of one stop short
  abbrev pub AreMadeOf : List Groups → Option (Vec Case Global) → Type 0
  AreMadeOf covers made = MatchOption made (StopShort covers)
      (λ cases. AreAllCasesOf covers (map case_data cases.items))

  -- No certificate is made of these covers. If some cover is small enough, there may be more than
  -- these, or the pieces of some case stop short.
  abbrev pub IsNotMade : List Groups → Type 0
  IsNotMade covers = HasSmallCover claim xs → (64 ≤ length covers) ⊎ StopShort covers
