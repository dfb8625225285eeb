-- One more record read.
use Rattle.std.proofs.lemmas.Int.{ints}
use Rattle.pairing.proofs.Common.{◌≡◌, ◌∙◌, ℕ, zero, suc, ◌≤◌, ◌<◌, List, [], ◌∷◌, ◌++◌, false, Option, Some, None, Result, Ok, Err, refl, sym, ap, subst, inl, inr, length, length-append, append_assoc, arith, slice_get, IfSome, IfErr, ◌⊎◌, All-push, All-weaker, count_by-le-length, RecordHead, Record, most_records, Coming, SourceState, IsNext, IsStep, read_failed, TakesFrom-trans, IsBytes, ClaimData, Counts, PairFault, Capture, CompactExchange, IndexedRequest, AreGiven, IsFromOutside, IsGiven, LeavesSource, MayAnswer, answer_of, capture_failed, device_failed, HasRoom, IsGatheredFrom, is_early, request_of, reply_of, requests_of, replies_of, Continues, IsRead, rules, nat_tests}
use Rattle.byte_stream.specs.Fault.{CountsFault}
use Rattle.pcap_reader.specs.declared.fault.CaptureFault.{CaptureFault}
use Rattle.pcap_reader.specs.declared.fault.CaptureFault.TheVariants.{Read, Failed}
use Rattle.pcap_reader.specs.Fault.{MayAnswer as MayStep}
use Rattle.pairing.proofs.JoinSteps.{length-filter_map}

-- an element stays at its place when more follow
slice_get-before : {X : Type 0} (xs ys : List X) (i : ℕ) (x : X) → slice_get xs i ≡ Some x →
    slice_get (xs ++ ys) i ≡ Some x
slice_get-before [] ys i x h = cc
slice_get-before (y ∷ xs) ys zero x h = h
slice_get-before (y ∷ xs) ys (suc i) x h = slice_get-before xs ys i x h

slice_get-end : {X : Type 0} (xs : List X) (x : X) → slice_get (xs ++ x ∷ []) (length xs) ≡ Some x
slice_get-end [] x = refl
slice_get-end (y ∷ xs) x = slice_get-end xs x

pub AreGiven-push : (done : List Record) (r : Record) → AreGiven done → length done < most_records → IsGiven r →
    r.head.number ≡ length done →
    AreGiven (done ++ r ∷ [])
AreGiven-push done r given few lawful number =
    let Stands = λ (x : Record). slice_get (done ++ r ∷ []) x.head.number ≡ Some x in
    record {
      few = omega (arith, length-append done (r ∷ []));
      each = All-push IsGiven done r given.each lawful;
      numbered =
          All-push Stands done r
          (All-weaker (λ (x : Record). slice_get done x.head.number
          ≡ Some x) Stands (λ x. slice_get-before done (r ∷ []) x.head.number x) done given.numbered)
          (subst (λ (n : ℕ). slice_get (done ++ r ∷ []) n ≡ Some r) (sym number) (slice_get-end done r));
    }

known-push : (start before now : Option Coming) (done : List Record) (head : RecordHead) (lent : List ℕ) →
    IfSome start (Continues done before) → IfSome before (λ coming. IsNext coming (Ok (Some head)) now lent) →
    IfSome start (Continues (done ++ record { head = head; bytes = lent } ∷ []) now)
known-push None before now done head lent known next = tt
known-push (Some coming) before now done head lent (rest, is, records, fault) next =
    let after = subst (λ (b : Option Coming). IfSome b (λ c. IsNext c (Ok (Some head)) now lent)) is next in
    let rest_is : rest.records ≡ record { head = head; bytes = lent } ∷ after.0.records =
    ap (λ (c : Coming). c.records) after.1 in
    let fault_is : rest.fault ≡ after.0.fault = ap (λ (c : Coming). c.fault) after.1 in (
      after.0,
      after.2,
      records ∙ ap (λ (rs : List Record). done ++ rs) rest_is
          ∙ sym (append_assoc done (record { head = head; bytes = lent } ∷ []) after.0.records),
      fault ∙ fault_is,
    )

-- a call gave a record
pub read-push : (start before now : SourceState) (done : List Record) (head : RecordHead) → IsRead start before done →
    IsStep before (Ok (Some head)) now → IsBytes now.lent →
    IsRead start now (done ++ record { head = head; bytes = now.lent } ∷ [])
read-push start before now done head read step bytes =
    let number : head.number ≡ length done = step.numbers.0 ∙ read.count in
    let one : Record = record { head = head; bytes = now.lent } in
    record {
      given = AreGiven-push done one read.given (omega (arith, number, step.lawful.number))
          (record { head = step.lawful; bytes = bytes }) number;
      count = omega (arith, step.numbers.1, read.count, length-append done (one ∷ []));
      known = known-push start.remaining before.remaining now.remaining done head now.lent read.known step.next_is;
      unfailed = step.stays_failed;
      no_fault = step.counts_fault ∙ read.no_fault;
      takes = TakesFrom-trans start.supply before.supply now.supply read.takes step.takes;
    }

-- an answer that is no fault of the capture, after a call that gave none
pub leaves-unfailed : {X : Type 0} (start before now : SourceState) (done : List Record) (next : Option RecordHead)
    (result : Result X PairFault) →
    IsRead start before done → IsStep before (Ok next) now → IfErr result MayAnswer → device_failed result ≡ false →
    capture_failed result ≡ false →
    LeavesSource start result now
leaves-unfailed start before now done next result read step may device capture = record {
  may_answer = may;
  counts_fault = rw device (step.counts_fault ∙ read.no_fault);
  failed_iff = step.stays_failed ∙ sym capture;
  takes = TakesFrom-trans start.supply before.supply now.supply read.takes step.takes;
}

not_failed : (start before now : SourceState) (done : List Record) (fault : CaptureFault) →
    IsRead start before done → IsStep before (Err fault) now →
    fault ≡ Failed → ⊥
not_failed start before now done fault read step same = grind (arith, ints, nat_tests)

may_first : (fault : CaptureFault) → MayStep fault → (fault ≡ Failed → ⊥) → MayAnswer (Capture fault)
may_first Failed h not = absurd (not refl)
may_first fault h not = h

same_count : (X : Type 0) (fault : CaptureFault) (n m : ℕ) → CountsFault (read_failed {X =
    Option RecordHead} (Err fault)) n m → CountsFault (device_failed {X = X} (Err (Capture fault))) n m
same_count X Read n m h = h
same_count X fault n m h = h

-- a call gave a fault
pub leaves-failed : {X : Type 0} (start before now : SourceState) (done : List Record) (fault : CaptureFault) →
    IsRead start before done → IsStep before (Err fault) now → LeavesSource {X = X} start (Err (Capture fault)) now
leaves-failed {X} start before now done fault read step = record {
  may_answer = may_first fault step.may_answer (not_failed start before now done fault read step);
  counts_fault = rw (← read.no_fault) (same_count X fault before.fault_count now.fault_count step.counts_fault);
  failed_iff = step.stays_failed;
  takes = TakesFrom-trans start.supply before.supply now.supply read.takes step.takes;
}

next_fault : (fault : CaptureFault) (coming : Coming) (after : Option Coming) (lent : List ℕ) →
    IsNext coming (Err fault) after lent → (fault ≡ Failed → ⊥) →
    IsFromOutside (Capture fault) ⊎ (coming.fault ≡ Some fault)
next_fault Read coming after lent h not = inl tt
next_fault Failed coming after lent h not = absurd (not refl)
next_fault fault coming after lent h not = inr (ap (λ (c : Coming). c.fault) h)

answer-broken : (claim : ClaimData) (coming : Coming) (fault : CaptureFault) → coming.fault ≡ Some fault →
    answer_of claim coming ≡ Err (Capture fault)
unfolding answer_of
answer-broken claim coming fault is = rw is refl

known-fault : (claim : ClaimData) (start before now : Option Coming) (done : List Record) (fault : CaptureFault)
    (lent : List ℕ) →
    IfSome start (Continues done before) → IfSome before (λ coming. IsNext coming (Err fault) now lent) →
    (fault ≡ Failed → ⊥) →
    IfSome start (λ coming. IsFromOutside (Capture fault) ⊎ (answer_of claim coming ≡ Err (Capture fault)))
known-fault claim None before now done fault lent known next not = tt
known-fault claim (Some coming) before now done fault lent (rest, is, records, same) next not =
    elim (next_fault fault rest now lent (subst (λ (b : Option Coming). IfSome b (λ c. IsNext c
    (Err fault) now lent)) is next) not) [
      | inl outside ↦ inl outside
      | inr ends ↦ inr (answer-broken claim coming fault (same ∙ ends))
    ]

pub refused-exact : (claim : ClaimData) (start before now : SourceState) (done : List Record)
    (fault : CaptureFault) → IsRead start before done →
    IsStep before (Err fault) now → IfSome start.remaining (λ coming. IsFromOutside (Capture fault)
    ⊎ (answer_of claim coming ≡ Err (Capture fault)))
refused-exact claim start before now done fault read step =
    known-fault claim start.remaining before.remaining now.remaining done fault now.lent read.known step.next_is
    (not_failed start before now done fault read step)

-- the counts of up to `most_records` records leave room
pub gathered-room : (claim : ClaimData) (done : List Record) (kept : List IndexedRequest)
    (held : List CompactExchange) (counts : Counts) →
    IsGatheredFrom claim done kept held counts → length done ≤ most_records → HasRoom counts most_records
unfolding requests_of replies_of
gathered-room claim done kept held counts g few =
    let asked = length-filter_map (request_of claim) done in
    let answered = length-filter_map (reply_of claim) done in
    record {
      records = omega (arith, g.all_records);
      requests = omega (arith, g.all_requests, asked);
      replies = omega (arith, g.all_replies, answered);
      refused = λ reason. omega (arith, count_by-le-length (is_early reason) (replies_of claim done));
      warned = omega (arith, g.warned);
    }

pub HasRoom-weaker : (counts : Counts) (more less : ℕ) → less ≤ more → HasRoom counts more → HasRoom counts less
HasRoom-weaker counts more less h room = search rules
