-- The report of `samples`: a line for each sample of the capture, and the counts.
use Rattle.audit.specs.Common.{Yes, Ready, whole_text, Plain, samples_text}
use Rattle.audit.specs.Evidence.{EvidenceData}
use Rattle.audit.specs.Question.{QuestionData}

-- the report for a program, as it is ready to go out
abbrev pub samples_ready : EvidenceData → Ready
samples_ready e = record { text = samples_text Plain e.claim e.collection; outcome = Yes }

-- what does each exchange say about the clock?
abbrev pub samples : QuestionData
samples = record {
  report = λ style finding said e. whole_text (samples_text style e.claim e.collection) Yes;
  Shows = λ claim second capture outcome. Unit {0};
}
