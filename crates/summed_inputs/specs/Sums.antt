-- What a file of sums gives for the inputs of a run, under the names that a command line has for
-- them.
use Rattle.std.specs.Prelude.{◌≡◌, ◌⊎◌, ℕ, List, [], Option, Some, None, IsOk, IsSome, Err}
use Rattle.summed_inputs.specs.Common.{Input, RunFault, Memory, Sums as Refused, Form, Missing, sum_given, sums_of, SecondKind, no_second, certificate_second, refutation_second, times_second}
use Rattle.report.specs.declared.fault.Input.TheVariants as inputs
use Rattle.sum_file.specs.declared.fault.SumFault.TheVariants as lines

-- The text of a file of sums, and the names that the inputs have in it. That of a second input
-- plays no part if the question has none.
pub record SumsData : Type 0 where
  pub text : List ℕ
  pub claim : List ℕ
  pub second : List ℕ
  pub capture : List ℕ

abbrev pub sums_data : List ℕ → List ℕ → List ℕ → List ℕ → SumsData
sums_data text claim second capture =
    record { text = text; claim = claim; second = second; capture = capture }

-- the SHA-256 that is given for each input
pub record Digests : Type 0 where
  pub claim : List ℕ
  pub second : List ℕ
  pub capture : List ℕ

-- the digest of a second input, if this is the one that was found: a question without a second
-- input needs none
abbrev pub needed : SecondKind → Option (List ℕ) → Option (List ℕ)
needed no_second found = Some []
needed kind found = found

-- The file of sums gives these digests for the inputs.
pub record AreGiven (kind : SecondKind) (sums : SumsData) (digests : Digests) : Type 0 where
  pub claim : sum_given sums.text sums.claim ≡ Some digests.claim
  pub second : needed kind (sum_given sums.text sums.second) ≡ Some digests.second
  pub capture : sum_given sums.text sums.capture ≡ Some digests.capture

-- which input the second one is, if there is one
abbrev pub second_input : SecondKind → Option Input
second_input no_second = None
second_input certificate_second = Some inputs.Certificate
second_input refutation_second = Some inputs.Refutation
second_input times_second = Some inputs.Times

-- each line of the text is lawful, and what was looked for in it isn't there
abbrev pub IsMissing : List ℕ → Option (List ℕ) → Type 0
IsMissing text found = IsOk (sums_of text) × (found ≡ None)

-- the first input, in the order claim, second input, capture, that no line names
abbrev pub IsFirstMissing : SecondKind → SumsData → Input → Type 0
IsFirstMissing kind sums input =
    ((input ≡ inputs.Claim) × IsMissing sums.text (sum_given sums.text sums.claim))
    ⊎ (((second_input kind ≡ Some input) × IsSome (sum_given sums.text sums.claim)
    × IsMissing sums.text (needed kind (sum_given sums.text sums.second)))
    ⊎ ((input ≡ inputs.Capture) × IsSome (sum_given sums.text sums.claim)
    × IsSome (needed kind (sum_given sums.text sums.second))
    × IsMissing sums.text (sum_given sums.text sums.capture)))

-- why the digests can't be had: the first line that isn't lawful, or the first missing input
abbrev pub IsOfSums : SecondKind → SumsData → RunFault → Type 0
IsOfSums kind sums (Refused (Form line)) = sums_of sums.text ≡ Err (lines.Form line)
IsOfSums kind sums (Refused (Missing input)) = IsFirstMissing kind sums input
IsOfSums kind sums Memory = Unit {0}
IsOfSums kind sums fault = ⊥

-- the second input is missing
abbrev pub IsSecondMissing : SecondKind → RunFault → Type 0
IsSecondMissing kind (Refused (Missing input)) = second_input kind ≡ Some input
IsSecondMissing kind fault = ⊥
