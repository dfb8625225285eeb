use Rattle.std.proofs.Common.{◌≡◌, ℕ, List, refl}
use Rattle.byte_stream.specs.Bytes.{IsBytes}
use Rattle.cover_certificate.specs.AnyReading.{by_covers, of_pieces}
use Rattle.cover_finder.specs.Answer.{AnswerData, of_finder, shown_by_covers}
use Rattle.finder.specs.Settlement.{shown}
use Rattle.report.specs.declared.fault.Outcome.TheVariants.{Yes, No}
use Rattle.audit.specs.Settle.{IsAnswerFrom, settled_outcome}
use Rattle.summed_inputs.specs.Shown.{IsSettledShown}
use Rattle.summed_inputs.proofs.laws.settle_is_an_answer.Goals as goal

-- only a certificate is a yes
is_shown : (claim capture : List ℕ) → IsBytes capture → (answer : AnswerData) → Yes ≡ settled_outcome answer →
    IsAnswerFrom answer claim capture → IsSettledShown claim capture
is_shown claim capture bytes (of_finder (shown certificate)) is holds =
    record { certificate = of_pieces certificate; shown = holds; in_relations = holds.in_relations bytes }
is_shown claim capture bytes (shown_by_covers certificate) is holds =
    record { certificate = by_covers certificate; shown = holds; in_relations = holds.in_relations bytes }
is_shown claim capture bytes answer is holds = absurd (let wrong : Yes ≡ No = is in cc)

pub returns-clause-yes : goal.returns-clause-yes
returns-clause-yes c about claim second capture bytes shows =
    let by = shows Yes refl in is_shown claim capture bytes by.answer by.outcome_is by.holds

pub returns-clause-no : goal.returns-clause-no
returns-clause-no c about claim second capture shows = shows No refl
