-- The report of `at` by covers: of a reading the hull of the clock's error over the ticks for which
-- the clock showed it, and when that was. The hull by covers is a relation, so the report is one on
-- what was found.
use Rattle.std.specs.Prelude.{◌≡◌, ◌==◌, ◌<◌, ◌&&◌, ℕ, ◌++◌, [], ◌∷◌, Bool, true, false, List, All, IfSome, Option, None, Some, if◌then◌else◌, length, pos, slice_get}
use Rattle.audit.specs.Check.{GiveSecond}
use Rattle.audit.specs.Common.{Course, Fits, HoldsErrorByCovers, Hull, IsHullByCovers, IsNearlyAttained, IsObservedIn, IsThen, Memory, ReadingData, Report, Style, Unbounded, Yes, parts_text, reading_heading, reading_line, reading_over, refused, rows_from, stretch_over, times_read, true_text, whole_text}
use Rattle.audit.specs.Evidence.{EvidenceData, GiveEvidence, OfClaimAndCapture}
use Rattle.audit.specs.Question.{Finding, QuestionData, no_finding}
use Rattle.audit.specs.Reading.{ticks_asked}
use Rattle.audit.specs.Second.{SecondData, times_said}
use Rattle.audit.specs.declared.question.by_covers.HullOver.{HullOver}

-- ---- hulls that were found

-- what the report is on
abbrev pub hulls_finding : List HullOver → Finding
hulls_finding found = record no_finding { over = Some found }

-- the hull is of this reading
abbrev pub is_of : ReadingData → HullOver → Bool
is_of r found = (found.begin == r.begin) && (found.end == r.end)

-- the hulls are of these readings, one of each in their order
abbrev pub are_of : List ReadingData → List HullOver → Bool
are_of [] [] = true
are_of [] (found ∷ more) = false
are_of (r ∷ readings) [] = false
are_of (r ∷ readings) (found ∷ more) = is_of r found && are_of readings more

-- This is the hull by covers over these ticks. In every course of events that fits the exchanges,
-- whenever the clock shows a reading of them, its error lies in the hull, and true time between the
-- two that are shown. An unbounded hull says nothing, and an empty one that no course that fits has
-- such a moment. If all minimal covers are known, some course comes near each end.
pub record IsHeldOver (e : EvidenceData) (found : HullOver) : Type 0 where
  pub hull : IsHullByCovers e.claim e.collection.exchanges
      (stretch_over (pos found.begin) (pos found.end)) found.hull
  pub error : HoldsErrorByCovers e.claim e.collection.exchanges
      (stretch_over (pos found.begin) (pos found.end)) found.hull
  pub ends : length hull.of.covers < 64 → IsNearlyAttained e.claim e.collection.exchanges
      (stretch_over (pos found.begin) (pos found.end)) found.hull
  pub time : (course : Course) → Fits e.claim e.collection.exchanges course
      → IsObservedIn course (pos found.begin) (pos found.end)
      → IsThen course (reading_over found.begin found.end) found.hull

-- Some hull of the reading is one.
abbrev pub IsHeldAt : ReadingData → EvidenceData → Type 0
IsHeldAt r e = (found : HullOver) × (is_of r found ≡ true) × IsHeldOver e found

-- so it is with each hull of these that is there
abbrev pub AreHeld : EvidenceData → List (Option HullOver) → Type 0
AreHeld e hulls = All (λ found. IfSome found (IsHeldOver e)) hulls

-- so it is with the one that stands in the place with this number, if one does
abbrev pub IsHeldAsNumbered : EvidenceData → List (Option HullOver) → ℕ → Type 0
IsHeldAsNumbered e hulls number =
    (found : HullOver) → slice_get hulls number ≡ Some (Some found) → IsHeldOver e found

-- ---- one reading

-- the whole text: the hull, and then when it was
abbrev pub hull_text : Style → EvidenceData → HullOver → List ℕ
hull_text style e found = parts_text style e.claim [] found.hull
    ++ true_text style (reading_over found.begin found.end) found.hull

-- the report on the hull of a reading; none if none was found
abbrev pub hull_report : Style → ReadingData → EvidenceData → Option (List HullOver) → Report
hull_report style r e None = refused Memory
hull_report style r e (Some []) = refused Memory
hull_report style r e (Some (found ∷ more)) =
    if is_of r found then whole_text (hull_text style e found) Yes else refused Memory

-- how far off may the clock have been while it showed a reading of these ticks, by covers, and when
-- was that?
abbrev pub at_by_covers : ℕ → ℕ → QuestionData
at_by_covers begin end = record {
  report = λ style finding said e. hull_report style (ticks_asked begin end) e finding.over;
  Shows = λ claim second capture outcome. OfClaimAndCapture claim capture
      (GiveEvidence (IsHeldAt (ticks_asked begin end)));
}

-- ---- many readings

-- the hull in a place, if there is one
abbrev pub hull_there : Option HullOver → Hull
hull_there None = Unbounded
hull_there (Some found) = found.hull

-- the row of the reading with this number, with the hull of this number
abbrev pub hull_row : Style → List HullOver → ℕ → ReadingData → List ℕ
hull_row style found number r = reading_line style r (hull_there (slice_get found number))

-- the whole text: a line for each reading
abbrev pub hulls_text : Style → List ReadingData → List HullOver → List ℕ
hulls_text style readings found =
    reading_heading style ++ rows_from (hull_row style found) 0 readings

-- the report on the hulls of readings; none if none were found
abbrev pub hulls_report : Style → SecondData → Option (List HullOver) → Report
hulls_report style (times_said readings) (Some found) =
    if are_of readings found then whole_text (hulls_text style readings found) Yes
    else refused Memory
hulls_report style said found = refused Memory

-- of each of these readings some hull is one
abbrev pub AreHeldAt : List ReadingData → EvidenceData → Type 0
AreHeldAt readings e = All (λ r. IsHeldAt r e) readings

-- how far off may the clock have been while it showed these readings, by covers, and when was that?
abbrev pub readings_by_covers : QuestionData
readings_by_covers = record {
  report = λ style finding said e. hulls_report style said finding.over;
  Shows = λ claim second capture outcome. OfClaimAndCapture claim capture
      (GiveSecond times_read AreHeldAt second.remaining);
}
