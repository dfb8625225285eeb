-- What hulls by covers show.
use Rattle.std.proofs.lemmas.List.Elements.{All-cons, All-head, All-nil, All-tail}
use Rattle.std.proofs.lemmas.List.{map_more}
use Rattle.std.proofs.Common.{◌+◌, ◌<◌, take}
use Rattle.audit.proofs.Common.{◌≡◌, ◌++◌, ◌∷◌, [], ℕ, List, All, All-slice_get, IfSome, Option, Some, slice_get, true, and_parts, arith, get_or, length, map, nat_tests, refl, EvidenceData, ShowsOf, Style, Yes, whole_text}
use Rattle.audit.specs.ByCovers.{AreHeld, AreHeldAt, IsHeldAsNumbered, IsHeldAt, IsHeldOver, are_of, hull_report, hull_text, hulls_report, hulls_text, is_of, readings_by_covers}
use Rattle.audit.specs.Check.{GiveSecond}
use Rattle.audit.specs.Common.{ReadingData, reading_data, times_read}
use Rattle.audit.specs.Second.{times_said, times_second}
use Rattle.audit.specs.declared.question.by_covers.HullOver.{HullOver}
use Rattle.reading_time.specs.declared.reading.Reading.{Reading}
use Rattle.audit.proofs.Showing.{of_inputs, of_second}

-- the report on the hull of a reading is its text
pub report_is : (style : Style) (r : ReadingData) (e : EvidenceData) (found : HullOver) → is_of r found ≡ true
    → hull_report style r e (Some (found ∷ [])) ≡ whole_text (hull_text style e found) Yes
report_is style r e found same = rw same refl

-- that on the hulls of many is theirs
pub reports_are : (style : Style) (readings : List ReadingData) (found : List HullOver) → are_of readings found ≡ true
    → hulls_report style (times_said readings) (Some found) ≡ whole_text (hulls_text style readings found) Yes
reports_are style readings found same = rw same refl

-- hulls of readings, and one more
pub one_more : (readings : List ReadingData) (found : List HullOver) (r : ReadingData) (one : HullOver)
    → are_of readings found ≡ true → is_of r one ≡ true → are_of (readings ++ r ∷ []) (found ++ one ∷ []) ≡ true
one_more [] [] r one before last = rw last refl
one_more [] (f ∷ found) r one before last = absurd cc
one_more (r' ∷ readings) [] r one before last = absurd cc
one_more (r' ∷ readings) (f ∷ found) r one before last =
    let both = and_parts (is_of r' f) (are_of readings found) before in
    rw (both.0, one_more readings found r one both.1 last) refl

-- of the first so many, and of the next
pub read_one_more : (readings : List Reading) (k : ℕ) (d : Reading) (found : List HullOver) (one : HullOver)
    → k < length readings → are_of (map reading_data (take k readings)) found ≡ true
    → one.begin ≡ (get_or readings k d).begin → one.end ≡ (get_or readings k d).end
    → are_of (map reading_data (take (k + 1) readings)) (found ++ one ∷ []) ≡ true
read_one_more readings k d found one within before begin end =
    let r = reading_data (get_or readings k d) in
    let own : is_of r one ≡ true = grind (arith, nat_tests) in
    rw (map_more reading_data readings k d within)
    (one_more (map reading_data (take k readings)) found r one before own)

-- a hull that stands in a place is held
pub held_there : (e : EvidenceData) (hulls : List (Option HullOver)) (k : ℕ) → AreHeld e hulls
    → IsHeldAsNumbered e hulls k
held_there e hulls k held found at =
    All-slice_get (λ (one : Option HullOver). IfSome one (IsHeldOver e)) hulls k (Some found) held at

-- each reading has a hull among those that were found
pub are_held_at : (e : EvidenceData) (readings : List ReadingData) (found : List HullOver)
    → are_of readings found ≡ true → All (IsHeldOver e) found → AreHeldAt readings e
are_held_at e [] found same held = All-nil (λ it. IsHeldAt it e)
are_held_at e (r ∷ readings) [] same held = absurd cc
are_held_at e (r ∷ readings) (f ∷ found) same held =
    let both = and_parts (is_of r f) (are_of readings found) same in
    All-cons (λ it. IsHeldAt it e) r readings (f, both.0, All-head (IsHeldOver e) f found held)
    (are_held_at e readings found both.1 (All-tail (IsHeldOver e) f found held))

-- the bytes of any inputs that say the readings and give the evidence show the same
pub held_shown : (e : EvidenceData) (said : List ReadingData) → AreHeldAt said e →
    ShowsOf readings_by_covers times_second (times_said said) e Yes
held_shown e said h claim second capture are =
    of_inputs e (GiveSecond times_read AreHeldAt second.remaining)
    (of_second times_said (λ t u same. cc) said times_read AreHeldAt e h second.remaining are.second_is)
    claim second capture are
