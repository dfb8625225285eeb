-- What the inputs of a run say of themselves.
use Rattle.std.specs.Prelude.{ℕ, List}
use Rattle.program.specs.Common.{FeedState, SinkState, RunState, run_state, Feeds, feeds, SumsData, sums_data}
use Rattle.program.specs.declared.inputs.Inputs.{Inputs}

-- their feeds
abbrev pub feeds_of : {N T : Type 0} → (N → FeedState) → (T → FeedState) → Inputs N T → Feeds
feeds_of state second inputs =
    feeds (state inputs.claim) (second inputs.second) (state inputs.capture)

-- a run over these feeds, and this output
abbrev pub run_over : Feeds → SinkState → RunState
run_over feeds sink = run_state feeds.claim feeds.second feeds.capture sink

-- the names by which a file of sums has them
pub record SumNames : Type 0 where
  pub claim : List ℕ
  pub second : List ℕ
  pub capture : List ℕ

abbrev pub sum_names : List ℕ → List ℕ → List ℕ → SumNames
sum_names claim second capture = record { claim = claim; second = second; capture = capture }

abbrev pub names_in : {N T : Type 0} → (N → List ℕ) → (T → List ℕ) → Inputs N T → SumNames
names_in named second inputs =
    sum_names (named inputs.claim) (second inputs.second) (named inputs.capture)

-- the text of a file of sums, and these names
abbrev pub sums_of : SumNames → List ℕ → SumsData
sums_of names text = sums_data text names.claim names.second names.capture
