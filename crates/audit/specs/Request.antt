-- What is asked of a claim and a capture alone, without a second input.
use Rattle.std.specs.Prelude.{◌≡◌, [], ◌∷◌, true}
use Rattle.audit.specs.Common.{found_data as data_of, Style}
use Rattle.audit.specs.At.{at}
use Rattle.audit.specs.ByCovers.{at_by_covers, hulls_finding, is_of}
use Rattle.audit.specs.Envelope.{IsEnvelopeFor, envelope, envelope_finding}
use Rattle.audit.specs.Find.{IsFoundBy, find}
use Rattle.audit.specs.FindRefutation.{find_refutation}
use Rattle.audit.specs.Evidence.{EvidenceData}
use Rattle.audit.specs.Order.{order_after, order_within}
use Rattle.audit.specs.Reading.{at_reading, ticks_asked}
use Rattle.audit.specs.Question.{Finding, QuestionData, no_finding}
use Rattle.audit.specs.Samples.{samples}
use Rattle.audit.specs.Settle.{IsEnoughFor, finding_of, settle}
use Rattle.audit.specs.declared.question.RequestFinding.{RequestFinding}
use Rattle.audit.specs.declared.question.RequestFinding.TheVariants.{Settlement, Search, Envelope, Over}
use Rattle.audit.specs.declared.question.Request.{Request}
use Rattle.audit.specs.declared.question.Request.TheVariants as requests

-- what the report of a request is on
abbrev pub finding_in : RequestFinding → Finding
finding_in (Settlement found) = finding_of found
finding_in (Envelope found) = envelope_finding found
finding_in (Over found) = hulls_finding (found ∷ [])
finding_in found = no_finding

-- What was found is what a request asks for, and enough for a text in this style.
abbrev pub IsFoundFor : Request → Style → EvidenceData → RequestFinding → Type 0
IsFoundFor requests.Settle style e (Settlement found) = IsEnoughFor style e found
IsFoundFor (requests.Find asked) style e (Search found) =
    IsFoundBy asked.step.seconds e (data_of found)
IsFoundFor (requests.Envelope asked) style e (Envelope found) = IsEnvelopeFor asked e found
IsFoundFor (requests.ByCovers asked) style e (Over found) =
    is_of (ticks_asked asked.reading.begin asked.reading.end) found ≡ true
IsFoundFor requests.Settle style e found = ⊥
IsFoundFor (requests.Find asked) style e found = ⊥
IsFoundFor (requests.Envelope asked) style e found = ⊥
IsFoundFor (requests.ByCovers asked) style e found = ⊥
IsFoundFor request style e found = Unit {0}

-- the question of a request, of which nothing is told about the inputs
abbrev pub question_of : Request → QuestionData
question_of requests.Samples = samples
question_of (requests.At asked) = at asked.unix_second
question_of (requests.Reading asked) = at_reading asked.begin asked.end
question_of (requests.ByCovers asked) = at_by_covers asked.reading.begin asked.reading.end
question_of requests.Settle = settle []
question_of (requests.Find asked) = find asked.step.seconds
question_of requests.FindRefutation = find_refutation
question_of (requests.Envelope asked) = envelope asked
question_of (requests.OrderAfter asked) =
    order_after asked.first asked.second.begin asked.second.end
question_of (requests.OrderWithin asked) = order_within
    (ticks_asked asked.first.begin asked.first.end)
    (ticks_asked asked.second.begin asked.second.end)
