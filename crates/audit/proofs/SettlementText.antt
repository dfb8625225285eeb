-- The text of a settled claim, on the least bound where it names that.
use Rattle.audit.proofs.Common.{◌≡◌, ◌++◌, Bool, true, false, List, ℕ, [], Option, Some, None, refl, IsSome, is_some, unwrap_or, AnswerData, LeastCarried, Style, whole_text, EvidenceData, is_on_least, names_least, report_of, settled_outcome, text_for, ◌&&◌, not, if◌then◌else◌}
use Rattle.line_writer.specs.declared.field.Style.TheVariants as styles

-- the report on a text that is known
pub report_is : (answer : AnswerData) (about : List ℕ) (known : Option (List ℕ)) → IsSome known →
    report_of answer about known ≡ whole_text (unwrap_or known [] ++ about) (settled_outcome answer)
report_is answer about (Some text) is = refl
report_is answer about None is = absurd cc

-- ---- a bound is there if it is needed

on_bound : (named looked_for : Bool) (text : List ℕ) → looked_for ≡ named →
    IsSome (if named && not looked_for then None else Some text)
on_bound false looked_for text is = refl
on_bound true looked_for text is = rw is refl

pub enough_with : (style : Style) (e : EvidenceData) (answer : AnswerData) (least : Option (Option LeastCarried)) →
    is_some least ≡ is_on_least style answer → IsSome (text_for style e least answer)
enough_with styles.Plain e answer least is = refl
enough_with _ e answer least is = on_bound (names_least answer) (is_some least) _ is

-- a text that is there is this one
pub answered : (missing : Bool) (text : List ℕ) → IsSome (if missing then None else Some text) →
    (if missing then None else Some text) ≡ Some text
answered true text is = absurd cc
answered false text is = refl
