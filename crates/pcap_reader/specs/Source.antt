-- A source of records, as the crates above see it: its state, and what a call does to it.
use Rattle.std.specs.Prelude.{◌≡◌, ◌+◌, ◌<◌, ◌≤◌, ◌↔◌, ◌⊎◌, ℕ, List, [], ◌∷◌, length, Option, Some, None, Result, Ok, Err, Bool, true, false, IsTrue, IfOk, IfErr, IfSome, IsErrOf, is_err}
use Rattle.std.specs.Io.KnownBytes.{Consumes}
use Rattle.std.proofs.Common.{◌++◌, arith, length-append, subst, sym}
use Rattle.std.proofs.KnownBytes.{Consumes-nil, Consumes-trans}
use Rattle.byte_stream.specs.Fault.{CountsFault}
use Rattle.byte_stream.specs.Intake.{TakesAtMost}
use Rattle.byte_stream.specs.State.{FeedState}
use Rattle.pcap_reader.specs.declared.fault.CaptureFault.{CaptureFault}
use Rattle.pcap_reader.specs.declared.fault.CaptureFault.TheVariants.{TornRecord, TooMany, Read, Failed}
use Rattle.pcap_reader.specs.declared.format.RecordHead.{RecordHead}
use Rattle.pcap_reader.specs.Capture.{IsLawfulHead}
use Rattle.pcap_reader.specs.Fault.{MayAnswer}
use Rattle.pcap_reader.specs.Limit.{most_taken}
use Rattle.pcap_reader.specs.Remaining.{Coming, whole_end, broken_end, then_coming, capture_of}

-- The bytes of a feed that a source hasn't taken, if they are known; how many the feed has counted
-- that were; and how many more it takes at most.
pub record Supply : Type 0 where
  pub unread : Option (List ℕ)
  pub count : ℕ
  pub most : ℕ

-- Bytes were taken from the front of what was unread, and no more than might be: the feed, a device
-- too, counts no more than these.
pub record TakesFrom (before after : Supply) : Type 0 where
  pub taken : List ℕ
  pub consumed : Consumes before.unread after.unread taken
  pub at_most : length taken + after.most ≤ before.most
  pub counted : after.count ≤ before.count + length taken

-- nothing was taken
pub TakesFrom-none : (s : Supply) → TakesFrom s s
TakesFrom-none s = record {
  taken = [];
  consumed = Consumes-nil s.unread;
  at_most = omega arith;
  counted = omega arith;
}

-- what two calls take in a row
pub TakesFrom-trans : (first second third : Supply) → TakesFrom first second →
    TakesFrom second third → TakesFrom first third
TakesFrom-trans first second third p q = record {
  taken = p.taken ++ q.taken;
  consumed = Consumes-trans first.unread second.unread third.unread p.taken q.taken
      p.consumed q.consumed;
  at_most = omega (arith, length-append p.taken q.taken, p.at_most, q.at_most);
  counted = omega (arith, length-append p.taken q.taken, p.counted, q.counted);
}

-- a feed from which a whole capture may be taken
abbrev pub whole_supply : FeedState → Supply
whole_supply feed =
    record { unread = feed.remaining; count = feed.taken; most = most_taken }

-- no more than might be was taken of a feed that is handed back
pub TakesFrom-at_most : (before after : FeedState) (end : Supply) →
    TakesFrom (whole_supply before) end → after.remaining ≡ end.unread → after.taken ≡ end.count →
    TakesAtMost most_taken before after
TakesFrom-at_most before after end p left counted = record {
  taken = p.taken;
  consumed = subst (λ (known : Option (List ℕ)). Consumes before.remaining known p.taken) (sym left)
      p.consumed;
  at_most = omega (arith, p.at_most);
  counted = omega (arith, p.counted, counted);
}

-- What a source shows: the records still to be given, and then an end, whole or a fault, if the
-- bytes are known; how many records were given; whether a fault was answered; the bytes of the
-- record given last, none at other times; how often the device has failed; what its feed still has,
-- and how many bytes were taken of it; how many of these are held for later calls.
pub record SourceState : Type 0 where
  pub remaining : Option Coming
  pub given : ℕ
  pub has_failed : Bool
  pub lent : List ℕ
  pub fault_count : ℕ
  pub supply : Supply
  pub held : ℕ

-- nothing was given, and no fault answered
pub record IsFresh (s : SourceState) : Type 0 where
  pub none_given : s.given ≡ 0
  pub unfailed : s.has_failed ≡ false
  pub none_lent : s.lent ≡ []

-- All of the capture that these bytes are is still to come.
abbrev pub AllRemains : List ℕ → Option Coming → Type 0
AllRemains bytes remaining = (c : Coming) × (capture_of bytes ≡ Ok c) × (remaining ≡ Some c)

-- What an answer says about what was still to come, with the bytes lent: a record is the first on
-- the list, None comes at a whole end, and a fault is the one at the list's end. A device's fault
-- and the answer after a fault say nothing about it.
abbrev pub IsNext : Coming → Result (Option RecordHead) CaptureFault → Option Coming → List ℕ →
    Type 0
IsNext coming (Ok (Some head)) after lent =
    (rest : Coming) × (coming ≡ then_coming (record { head = head; bytes = lent }) rest)
    × (after ≡ Some rest)
IsNext coming (Ok None) after lent = (coming ≡ whole_end) × (after ≡ Some whole_end)
IsNext coming (Err Read) after lent = Unit {0}
IsNext coming (Err Failed) after lent = Unit {0}
IsNext coming (Err fault) after lent = coming ≡ broken_end fault

-- A record has as its number how many were given before, and no other answer gives one.
abbrev pub Numbers : Result (Option RecordHead) CaptureFault → ℕ → ℕ → Type 0
Numbers (Ok (Some head)) before after = (head.number ≡ before) × (after ≡ before + 1)
Numbers (Ok None) before after = after ≡ before
Numbers (Err fault) before after = after ≡ before

-- The bytes lent are those of the record given, and none if there is none.
abbrev pub Lends : Result (Option RecordHead) CaptureFault → List ℕ → Type 0
Lends (Ok (Some head)) lent = length lent ≡ head.captured
Lends (Ok None) lent = lent ≡ []
Lends (Err fault) lent = lent ≡ []

-- how many bytes show this fault of a record; one more than there are if only the end shows it
abbrev pub shown_by : CaptureFault → ℕ → ℕ
shown_by TooMany held = 1
shown_by (TornRecord place) held = held + 1
shown_by _ held = 16

-- This many bytes at the front of what is still to come don't show the next answer: they are fewer
-- than the next record has, or than show its fault. Only the end shows that a record is torn.
abbrev pub IsUndecided : Coming → ℕ → Type 0
IsUndecided coming held = elim coming.records [
  | [] ↦ (elim coming.fault [
    | None ↦ held ≡ 0
    | Some fault ↦ held < shown_by fault held
  ])
  | r ∷ rs ↦ held < 16 + r.head.captured
]

-- The device's fault comes only if the bytes taken before it don't show the answer.
abbrev pub IsReadInTime : Result (Option RecordHead) CaptureFault → Coming → ℕ → Type 0
IsReadInTime (Err Read) coming held = IsUndecided coming held
IsReadInTime _ coming held = Unit {0}

-- The next answer can be given at once: it's the answer after a fault, no byte more may be taken,
-- or the bytes that are held show it, if the bytes are known.
abbrev pub IsNextShown : SourceState → Type 0
IsNextShown s = IsTrue s.has_failed ⊎ ((s.supply.most ≡ 0)
    ⊎ IfSome s.remaining (λ coming. ¬ (IsUndecided coming s.held)))

-- whether the fault is the device's
abbrev pub is_read : CaptureFault → Bool
is_read Read = true
is_read _ = false

-- whether the answer is that the device failed
abbrev pub read_failed : {X : Type 0} → Result X CaptureFault → Bool
read_failed (Ok x) = false
read_failed (Err fault) = is_read fault

-- One call of next_record. A record is lawful. `Read` comes exactly if the device failed in this
-- call, before the answer was shown by the bytes taken, and `Failed` exactly if a fault was
-- answered before; after a fault each answer is one.
pub record IsStep (old : SourceState) (result : Result (Option RecordHead) CaptureFault)
    (new : SourceState) : Type 0 where
  pub lawful : IfOk result (λ next. IfSome next IsLawfulHead)
  pub numbers : Numbers result old.given new.given
  pub lends : Lends result new.lent
  pub next_is : IfSome old.remaining (λ coming. IsNext coming result new.remaining new.lent)
  pub may_answer : IfErr result MayAnswer
  pub in_time : IfSome old.remaining (λ coming. IsReadInTime result coming new.held)
  pub counts_fault : CountsFault (read_failed result) old.fault_count new.fault_count
  pub failed_iff : IsErrOf result Failed ↔ IsTrue old.has_failed
  pub stays_failed : new.has_failed ≡ is_err result
  pub takes : TakesFrom old.supply new.supply
