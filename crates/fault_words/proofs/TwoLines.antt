-- The words about a fault are two lines.
use Rattle.fault_words.proofs.Common.{◌∙◌, inl, inr, ℕ, ◌++◌, Bool, true, false, T, List, [], ◌∷◌, codes, refl, sym, subst, append_assoc, nat_eq, if◌then◌else◌, take, Option, Some, None, chars, flat_map, NoCharPasses-nil, AreQuiet, AreTwoLines, AreWords, SeenData, IsExplanation, IsOutputExplanation, IsTimeExplanation, field_of, field_words, IsQuiet, IsQuoted, are_visible, front, is_obeyed, IsQuietKnown, KnownData, are_words, filled, filling}
use Rattle.report.specs.declared.fault.Input.{Input}
use Rattle.report.specs.declared.fault.Input.TheVariants as inputs
use Rattle.report.specs.declared.fault.RunFault.{RunFault}
use Rattle.fault_words.specs.ClaimField.{field_name}
use Rattle.fault_words.specs.Subject.{NamesData, input_of, name_of, subject}
use Rattle.fault_words.proofs.Quiet.{either_visible, quiet_append, said, said_between, shown_char_is_quiet, shown_is_quiet, visible_is_quiet}

nothing_is_quiet : IsQuiet []
nothing_is_quiet = NoCharPasses-nil is_obeyed

words_are_quiet : (cs : List ℕ) → T (are_words cs) → IsQuiet cs
words_are_quiet [] words = absurd words
words_are_quiet (c ∷ cs) words = visible_is_quiet (c ∷ cs) words

either_quiet : (b : Bool) (xs ys : List ℕ) → IsQuiet xs → IsQuiet ys → IsQuiet (if b then xs else ys)
either_quiet true xs ys p q = p
either_quiet false xs ys p q = q

-- ---- remedies

module _ (known : KnownData) (quiet : IsQuietKnown known) where
  filling_is_quiet : (c : ℕ) → IsQuiet (filling known c)
  filling_is_quiet c =
      either_quiet (nat_eq c 0x40) _ _ quiet.file
      (either_quiet (nat_eq c 0x23) _ _ quiet.place
      (either_quiet (nat_eq c 0x7E) _ _ quiet.evidence
      (either_quiet (nat_eq c 0x26) _ _ quiet.inputs
      (either_quiet (nat_eq c 0x25) _ _ quiet.sums
      (shown_char_is_quiet c)))))

  filled_is_quiet : (cs : List ℕ) → IsQuiet (flat_map (filling known) cs)
  filled_is_quiet [] = nothing_is_quiet
  filled_is_quiet (c ∷ cs) =
      quiet_append (filling known c) (flat_map (filling known) cs) (filling_is_quiet c) (filled_is_quiet cs)

-- ---- how words begin

name_is_visible : (code : ℕ) → T (are_visible (field_name code))
name_is_visible code =
    either_visible (nat_eq code 1) _ _ tt
    (either_visible (nat_eq code 2) _ _ tt
    (either_visible (nat_eq code 3) _ _ tt
    (either_visible (nat_eq code 4) _ _ tt
    (either_visible (nat_eq code 5) _ _ tt
    (either_visible (nat_eq code 6) _ _ tt
    (either_visible (nat_eq code 7) _ _ tt
    (either_visible (nat_eq code 8) _ _ tt
    (either_visible (nat_eq code 9) _ [] tt tt))))))))

field_is_quiet : (field : ℕ) → IsQuiet (field_words field)
field_is_quiet field =
    either_quiet (nat_eq field 0) [] _ nothing_is_quiet
    (said_between _ (codes "\"") (field_name field) (codes "\" ") refl tt
    (visible_is_quiet (field_name field) (name_is_visible field)) tt)

name_is_quiet : (called : NamesData) (input : Input) → AreQuiet called → IsQuiet (name_of called input)
name_is_quiet called inputs.Claim quiet = quiet.claim
name_is_quiet called inputs.Capture quiet = quiet.capture
name_is_quiet called inputs.Certificate quiet = quiet.second
name_is_quiet called inputs.Refutation quiet = quiet.second
name_is_quiet called inputs.Times quiet = quiet.second
name_is_quiet called inputs.Sums quiet = quiet.sums

subject_is_quiet : (called : NamesData) (input : Option Input) → AreQuiet called → IsQuiet (subject called input)
subject_is_quiet called None quiet = nothing_is_quiet
subject_is_quiet called (Some input) quiet =
    let name = name_of called input in
    quiet_append name (codes ": ") (name_is_quiet called input quiet) (visible_is_quiet (codes ": ") tt)

-- ---- lines

two_lines : (begin seen text : List ℕ) → IsQuiet begin → IsQuiet seen → AreWords begin seen text → AreTwoLines text
two_lines begin seen text quiet told words =
    let remedy = filled words.known words.remedy in
    let behind = quiet_append words.wrong seen (words_are_quiet words.wrong words.wrong_said) told in (
      codes "  " ++ (begin ++ (words.wrong ++ seen)),
      codes "  " ++ remedy,
      words.lines ∙ simp append_assoc refl,
      said _ (codes "  ") _ refl tt (quiet_append begin _ quiet behind),
      said _ (codes "  ") remedy refl tt (filled_is_quiet words.known words.quiet (chars words.remedy)),
    )

pub of_input : (called : NamesData) (fault : RunFault) (found : SeenData) (text : List ℕ) → AreQuiet called →
    IsQuiet found.seen → IsExplanation called fault found text → AreTwoLines text
of_input called fault found text quiet told words =
    let begin = quiet_append _ _ (subject_is_quiet called (input_of fault) quiet)
    (field_is_quiet (field_of fault found.field)) in
    two_lines _ found.seen text begin told words

pub of_output : (name seen text : List ℕ) → IsQuiet name → IsQuiet seen → IsOutputExplanation name seen text →
    AreTwoLines text
of_output name seen text quiet told words =
    two_lines _ seen text (quiet_append name (codes ": ") quiet (visible_is_quiet (codes ": ") tt)) told words

quoted_is_quiet : (time quoted : List ℕ) → IsQuoted time quoted → IsQuiet quoted
quoted_is_quiet time quoted (inl is) = subst IsQuiet (sym is) (shown_is_quiet (take 40 (chars time)))
quoted_is_quiet time quoted (inr is) =
    subst IsQuiet (sym is)
    (quiet_append (front time) (codes "..") (shown_is_quiet (take 40 (chars time))) (visible_is_quiet (codes "..") tt))

pub of_time : (time text : List ℕ) → IsTimeExplanation time text → AreTwoLines text
of_time time text (quoted, is, words) =
    let seen = said_between _ (codes "; it is \"") quoted (codes "\"") refl tt (quoted_is_quiet time quoted is) tt in
    two_lines (codes "TIME ") _ text (visible_is_quiet (codes "TIME ") tt) seen words
