-- How a run ends.
use Rattle.report.proofs.Common.{◌≡◌, ◌⊎◌, ◌++◌, ℕ, List, [], ◌∷◌, Option, Bool, true, false, Result, Ok, Err, refl, subst, inr, length, arith, IsOk, take-length, append-nil, append_assoc, concat, concat-append, Appends, Appends-kept, Keeps, SinkState, Input, Outcome, RunFault, Device, Write, Memory, OutputState, Puts, Report, text_of, GetsText, IsPut, Closes, IsRefusal}
use Rattle.byte_stream.specs.Fault.{CountsFault, CountsFault-after}

-- a sink was finished, and it failed or not
pub record Finishes (old new : SinkState) (failed : Bool) : Type 0 where
  pub kept : Keeps old.contents new.contents
  pub closed : new.is_open ≡ false
  pub counts : CountsFault failed old.faults new.faults

-- whether it failed or not, it counts that
counts_any : (failed : Bool) (start before after : ℕ) → before ≡ start → CountsFault failed before after →
    (b : Bool) × CountsFault b start after
counts_any failed start before after same counts = (failed, CountsFault-after failed start before after same counts)

-- all that was put before has gone out
pub record SendsAll (old mid : OutputState) : Type 0 where
  pub puts : Puts old mid [] (Ok tt)
  pub empty : mid.gathered ≡ []

module _ (report : Report) (before : Option (List ℕ)) (old mid : OutputState) where
  -- a whole report was put and has gone out
  gets_all : (after : Option (List ℕ)) → IsPut report before old → SendsAll old mid → Keeps mid.sink.contents after →
      Appends before after (text_of report) × (mid.sent ≡ length (text_of report))
  gets_all after (texts, whole, put) p kept =
      let all = p.puts.texts before texts put in grind (arith, append-nil, concat-append, Appends-kept)

  -- the sink failed before the whole of a report had gone out
  gets_part : (n : ℕ) → IsPut report before old → Puts old mid [] (Err (Write n)) →
      GetsText report before mid.sink.contents (Err (Write n))
  gets_part n (texts, whole, put) p = let stops = p.texts before texts put in grind (arith, append-nil)

-- an outcome, with the whole text
pub closes_ok : (old mid : OutputState) (after : SinkState) (outcome : Outcome) → SendsAll old mid →
    Finishes mid.sink after false → Closes old after (Ok outcome) (Ok outcome)
closes_ok old mid after outcome p finishes = grind (arith, gets_all)

-- an outcome that couldn't be finished
pub closes_unfinished : (old mid : OutputState) (after : SinkState) (outcome : Outcome) → SendsAll old mid →
    Finishes mid.sink after true → Closes old after (Ok outcome) (Err (Write mid.sent))
closes_unfinished old mid after outcome p finishes = record {
  text = λ report before run.
      let all = gets_all report before old mid after.contents run.1 p finishes.kept in
      (inr (all.1, subst IsOk run.0 refl), grind (arith, take-length (text_of report), all));
  stays = inr (mid.sent, refl);
  closed = finishes.closed;
  sink = λ before start. omega (arith, finishes.counts, p.puts.faults, start);
  device = λ which. refl;
}

-- a run that came to an outcome or a refusal, after which its text goes out
abbrev pub HasText : Result Outcome RunFault → Type 0
HasText (Ok outcome) = Unit {0}
HasText (Err fault) = IsRefusal fault

-- the sink failed before the whole text had gone out
pub closes_short : (old mid : OutputState) (ran : Result Outcome RunFault) (fault : RunFault) → HasText ran →
    Puts old mid [] (Err fault) → Closes old mid.sink ran (Err fault)
closes_short old mid (Err (Write n)) fault r p = absurd r
closes_short old mid (Err (Device i)) fault r p = absurd r
closes_short old mid (Err Memory) fault r p = absurd r
closes_short old mid ran (Write n) r p = record {
  text = λ report before run. gets_part report before old mid n run.1 p;
  stays = inr (n, refl);
  closed = p.is_open;
  sink = λ before start. omega (arith, p.faults, start);
  device = λ which. refl;
}
closes_short old mid ran fault r p = absurd p.fault

-- A refusal, with all that it leaves of the text. The sink may have failed as it was finished.
pub closes_refused : (old mid : OutputState) (after : SinkState) (refusal : RunFault) (failed : Bool) →
    IsRefusal refusal → SendsAll old mid → Finishes mid.sink after failed → Closes old after (Err refusal) (Err refusal)
closes_refused old mid after refusal failed r p finishes = grind (arith, gets_all, counts_any)

pub left_nil : (a b : List (List ℕ)) → [] ≡ a ++ b → a ≡ []
left_nil [] b e = refl
left_nil (x ∷ a) b e = cc

-- A device failed, and some first lines have gone out, or memory was refused, and nothing was put.
pub closes_outside : (old : OutputState) (after : SinkState) (fault : RunFault) (failed : Bool) →
    ((input : Input) × (fault ≡ Device input)) ⊎ (fault ≡ Memory) → Finishes old.sink after failed →
    Closes old after (Err fault) (Err fault)
closes_outside old after fault failed outside finishes =
    grind (arith, append_assoc, append-nil, left_nil, concat, Appends-kept, counts_any)
