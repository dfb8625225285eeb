-- The way of texts to a sink: which have gone out, which are gathered, and where a sink that fails
-- cuts them off.
use Rattle.std.specs.Prelude.{◌≡◌, ◌+◌, ◌^◌, ◌<◌, ℕ, List, [], ◌++◌, length, take, Option, Result, MatchResult, OnOk, IfErr, is_ok, is_err}
use Rattle.report.specs.Common.{concat, Appends, CountsFault, SinkState, IsWritable}
use Rattle.report.specs.declared.fault.RunFault.{RunFault}
use Rattle.report.specs.declared.fault.RunFault.TheVariants.{Write}

-- an output at one moment: its sink, the text that is gathered, and how many bytes have gone out
pub record OutputState : Type 0 where
  pub sink : SinkState
  pub gathered : List ℕ
  pub sent : ℕ

-- an output that has got nothing yet
abbrev pub fresh_output : SinkState → OutputState
fresh_output sink = record { sink = sink; gathered = []; sent = 0 }

-- an output after it has gathered a text
abbrev pub with_text : OutputState → List ℕ → OutputState
with_text o text = record { sink = o.sink; gathered = o.gathered ++ text; sent = o.sent }

-- how many bytes were put in all
abbrev pub put_count : OutputState → ℕ
put_count o = o.sent + length o.gathered

-- An output may be used: its sink may be pushed to, and the count of its bytes has room.
pub record IsReady (o : OutputState) : Type 0 where
  pub sink : IsWritable o.sink
  pub few : put_count o < 2 ^ 64

-- Texts were put, one after another. The first of them have gone out, after what the sink held
-- `before`, and the others are gathered: no text is parted.
pub record HasPut (before : Option (List ℕ)) (now : OutputState)
    (texts : List (List ℕ)) : Type 0 where
  pub gone : List (List ℕ)
  pub kept : List (List ℕ)
  pub parts : texts ≡ gone ++ kept
  pub gathered : now.gathered ≡ concat kept
  pub went : Appends before now.sink.contents (concat gone)
  pub counted : now.sent ≡ length (concat gone)

-- A text was cut short: exactly `sent` of its bytes have gone out, and not all.
pub record IsCut (text : List ℕ) (before after : Option (List ℕ)) (sent : ℕ) : Type 0 where
  pub short : sent < length text
  pub went : Appends before after (take sent text)

-- The sink failed while these texts were on their way.
pub record StopsIn (texts : List (List ℕ)) (before after : Option (List ℕ))
    (fault : RunFault) : Type 0 where
  pub sent : ℕ
  pub fault_is : fault ≡ Write sent
  pub cut : IsCut (concat texts) before after sent

-- a fault that says how many bytes the sink has got
abbrev pub IsWrite : RunFault → Type 0
IsWrite (Write sent) = Unit {0}
IsWrite _ = ⊥

-- What a call on an output does that puts `added`: these texts follow those that were put before,
-- or the sink fails while the earlier ones go out, and is closed.
pub record Puts (old new : OutputState) (added : List (List ℕ))
    (result : Result (Unit {0}) RunFault) : Type 0 where
  pub texts : (before : Option (List ℕ)) (texts : List (List ℕ)) → HasPut before old texts →
      MatchResult result
      (λ _. HasPut before new (texts ++ added))
      (λ fault. StopsIn texts before new.sink.contents fault)
  pub fault : IfErr result IsWrite
  pub count : OnOk result (put_count new ≡ put_count old + length (concat added))
  pub is_open : new.sink.is_open ≡ is_ok result
  pub faults : CountsFault (is_err result) old.sink.faults new.sink.faults
