-- One end of a server's interval over any stretch.
--
-- A mark is moved by the greater of two changes: of that from its place to the stretch's end, by
-- the rate onwards, and of that from the stretch's begin to its place, by the rate back. The first
-- is the greater one up to a place between the two ends, the middle, the second behind it.
use Rattle.std.specs.Prelude.{◌≡◌, ℕ, ◌+◌, ◌*◌, ◌≤◌, ℤ, pos, neg_ℤ, ◌+ℤ◌, ◌-ℤ◌, ◌*ℤ◌, ◌≤ℤ◌, List, length, map, Option, Some, None, slice_get, unsigned_abs, if◌then◌else◌, int_lt}
use Rattle.std.specs.Int.{int_div_euclid, int_max}
use Rattle.cover_finder.specs.Common.{Mark, Stretch, ahead, ceiling_of}
use Rattle.cover_finder.specs.Ridge.{IsRidgeOf}
use Rattle.cover_finder.specs.declared.peak.End.{End}
use Rattle.cover_finder.specs.declared.peak.Numbered.{Numbered}
use Rattle.cover_finder.specs.declared.side.Side.{Side}

-- a mark with its place turned
abbrev pub turned : Numbered → Numbered
turned one = record {
  mark = record { place = neg_ℤ one.mark.place; error = one.mark.error };
  number = one.number;
}

-- no mark comes behind a later one
abbrev pub AreInOrder : List Numbered → Type 0
AreInOrder marks = (i j : ℕ) (a b : Numbered) → i ≤ j → slice_get marks i ≡ Some a
    → slice_get marks j ≡ Some b → a.mark.place ≤ℤ b.mark.place

-- the side of these marks: their ridge, and that of the same with their places turned
pub record IsSideOf (drift onwards back : ℕ) (marks : List Numbered) (side : Side) : Type 0 where
  pub early : IsRidgeOf drift onwards marks 0 (length marks) side.early
  pub late : IsRidgeOf drift back (map turned marks) 0 (length (map turned marks)) side.late

-- how much the error changes over a distance, rounded up to a tick
abbrev pub change : ℕ → ℕ → ℤ → ℤ
change drift rate distance = pos (ceiling_of (drift * unsigned_abs distance) rate)

-- the error that a mark is moved to for a stretch
abbrev pub end_over : ℕ → ℕ → ℕ → Stretch → Mark → ℤ
end_over drift onwards back stretch mark =
    mark.error -ℤ int_max (change drift onwards (ahead mark.place stretch.end))
    (change drift back (ahead stretch.begin mark.place))

-- the ends of a stretch, each weighed by a rate
abbrev pub weighed : ℕ → ℕ → Stretch → ℤ
weighed onwards back stretch =
    (pos back *ℤ stretch.end) +ℤ (pos onwards *ℤ stretch.begin)

-- the last place up to which the end of a stretch is the farther one from a mark
abbrev pub middle_of : ℕ → ℕ → Stretch → ℤ
middle_of onwards back stretch =
    int_div_euclid (weighed onwards back stretch) (pos (back + onwards))

-- the higher of two ends, the first if neither is
abbrev pub higher_of : Option End → Option End → Option End
higher_of None late = late
higher_of (Some a) None = Some a
higher_of (Some a) (Some b) = if int_lt a.error b.error then Some b else Some a

-- this is the end of one of these marks for a stretch, and none has a higher
pub record IsHighestOver (drift onwards back : ℕ) (marks : List Numbered) (stretch : Stretch)
    (end : End) : Type 0 where
  pub index : ℕ
  pub one : Numbered
  pub stands : slice_get marks index ≡ Some one
  pub number : end.number ≡ one.number
  pub error : end.error ≡ end_over drift onwards back stretch one.mark
  pub none_higher : (k : ℕ) (other : Numbered) → slice_get marks k ≡ Some other
      → end_over drift onwards back stretch other.mark ≤ℤ end.error
