-- How the run of a listing ends that has no record to list, and what it makes of a capture's bytes.
use Rattle.listing.proofs.Common.{◌≡◌, ◌≤◌, ℕ, List, [], Option, Some, None, Result, Ok, Err, refl, sym, ap, subst, arith, IfSome, option_map, CountsFault, FeedState, SinkState, CaptureFault, Coming, capture_of, AllRemains, is_read, Outcome, RunFault, run_fault_of, Report, Reports, text_of, GetsText, refused, listing, report_on, report_of, list_report, CountsCapture}
use Rattle.byte_stream.specs.Intake.{TakesAtMost, TakesAtMost-weaker}
use Rattle.pcap_reader.specs.declared.fault.CaptureFault.TheVariants as captures
use Rattle.pcap_reader.specs.Limit.{most_taken, buffer_size}
use Rattle.pcap_reader.specs.Refusal.{IsRefusal, most_refused}
use Rattle.report.specs.declared.fault.RunFault.TheVariants as faults
use Rattle.report.specs.Publication.{IsMadeFor, Publishes}
use Rattle.report.specs.Run.{capture_state}

-- the report on what is to come
pub listing-of : (coming : Coming) → listing coming ≡ report_on coming.records coming.fault
unfolding listing
listing-of coming = refl

-- the report on bytes that are read, and on bytes with a faulty header
pub list_report-read : (bytes : List ℕ) (coming : Coming) → capture_of bytes ≡ Ok coming →
    list_report bytes ≡ listing coming
unfolding list_report
list_report-read bytes coming is = ap report_of is

list_report-refused : (bytes : List ℕ) (fault : CaptureFault) → capture_of bytes ≡ Err fault →
    list_report bytes ≡ refused (faults.Capture fault)
unfolding list_report
list_report-refused bytes fault is = ap report_of is

made_by : (bytes : List ℕ) (fault : CaptureFault) → capture_of bytes ≡ Err fault →
    (text_of (list_report bytes) ≡ []) × ((list_report bytes).answer ≡ Err (faults.Capture fault))
made_by bytes fault is = let e = list_report-refused bytes fault is in (rw e refl, rw e refl)

-- a refusal is what the bytes' report calls for
pub made_refused : (known : Option (List ℕ)) (fault : CaptureFault) → IsRefusal known fault →
    IfSome (option_map list_report known) (λ r. IsMadeFor r (Err (run_fault_of fault)))
made_refused None fault refusal = tt
made_refused (Some bytes) captures.Read refusal = tt
made_refused (Some bytes) captures.Memory refusal = tt
made_refused (Some bytes) captures.TornHeader refusal = made_by bytes captures.TornHeader refusal.1
made_refused (Some bytes) captures.Magic refusal = made_by bytes captures.Magic refusal.1
made_refused (Some bytes) captures.Version refusal = made_by bytes captures.Version refusal.1
made_refused (Some bytes) captures.Link refusal = made_by bytes captures.Link refusal.1
made_refused (Some bytes) fault refusal = absurd refusal.0

-- the run counts a refusal's device as the capture does
pub counts_refused : (fault : CaptureFault) (before after : ℕ) → CountsFault (is_read fault) before after →
    CountsCapture (Err (run_fault_of fault)) before after
counts_refused captures.Read before after counts = record { claim = refl; second = refl; capture = counts; sums = refl }
counts_refused fault before after counts = record { claim = refl; second = refl; capture = counts; sums = refl }

module _ {before after : SinkState} {answer : Result Outcome RunFault} (fault : RunFault) where
  -- a refusal is published
  published_text : (report : Option Report) → IfSome report (λ r. IsMadeFor r (Err fault)) →
      Publishes before after (Err fault) answer →
      IfSome report (λ r. GetsText r before.contents after.contents answer)
  published_text None made p = tt
  published_text (Some r) made p = p.text r made

  pub reports_published : {feed feed' : FeedState} (report : Option Report) →
      IfSome report (λ r. IsMadeFor r (Err fault)) → Publishes before after (Err fault) answer →
      CountsCapture (Err fault) feed.faults feed'.faults →
      Reports report (capture_state feed before) (capture_state feed' after) answer
  reports_published report made p counts = grind (arith, published_text)

-- What was listed of a source is what the bytes' report calls for.
module _ (answer : Result Outcome RunFault) where
  bytes_text : (known : Option (List ℕ)) (remaining : Option Coming) (old new : Option (List ℕ)) →
      IfSome known (λ bytes. AllRemains bytes remaining) →
      IfSome (option_map listing remaining) (λ r. GetsText r old new answer) →
      IfSome (option_map list_report known) (λ r. GetsText r old new answer)
  bytes_text None remaining old new all text = tt
  bytes_text (Some bytes) None old new (coming, is, remains) text = let wrong : None ≡ Some coming = remains in cc
  bytes_text (Some bytes) (Some c) old new (coming, is, remains) text =
      let same : c ≡ coming = cc in
      rw (list_report-read bytes coming is) (subst (λ (x : Coming). GetsText (listing x) old new answer) same text)

  pub reports_of_bytes : {feed feed' source source' : FeedState} {before after : SinkState}
      (known : Option (List ℕ)) (remaining : Option Coming) → IfSome known (λ bytes. AllRemains bytes remaining) →
      source.faults ≡ feed.faults → feed'.faults ≡ source'.faults →
      Reports (option_map listing remaining) (capture_state source before) (capture_state source' after) answer →
      Reports (option_map list_report known) (capture_state feed before) (capture_state feed' after) answer
  reports_of_bytes {before = before} {after = after} known remaining all first last listed = record {
    text = bytes_text known remaining before.contents after.contents all listed.text;
    closed = listed.closed;
    sink = listed.sink;
    claim = listed.claim;
    second = listed.second;
    capture = rw (sym first, last) listed.capture;
    sums = listed.sums;
  }

nothing_made : (report : Option Report) → IfSome report (λ r. IsMadeFor r (Err faults.Memory))
nothing_made None = tt
nothing_made (Some r) = tt

-- memory was refused before anything was taken or pushed
pub reports_refused_memory : {feed : FeedState} {before after : SinkState} {answer : Result Outcome RunFault}
    (report : Option Report) → Publishes before after (Err faults.Memory) answer →
    Reports report (capture_state feed before) (capture_state feed after) answer
reports_refused_memory report p = grind (arith, reports_published, nothing_made)

-- ---- what a refusal leaves of the feed

fault_is_memory : (fault : CaptureFault) → run_fault_of fault ≡ faults.Memory → fault ≡ captures.Memory
fault_is_memory captures.Memory is = refl
fault_is_memory captures.Read is = cc
fault_is_memory fault is = cc

-- memory is answered only where the buffer wasn't made
pub memory_refused : {before after : SinkState} {answer : Result Outcome RunFault} (fault : CaptureFault) →
    Publishes before after (Err (run_fault_of fault)) answer → answer ≡ Err faults.Memory → fault ≡ captures.Memory
memory_refused fault p is = grind (arith, run_fault_of, fault_is_memory)

most_refused-few : (fault : CaptureFault) → most_refused fault ≤ buffer_size
most_refused-few captures.Read = omega arith
most_refused-few captures.Memory = omega arith
most_refused-few fault = omega arith

-- at most one buffer was taken, which is less than a whole capture
pub refused_takes : (before after : FeedState) (fault : CaptureFault) →
    TakesAtMost (most_refused fault) before after → TakesAtMost buffer_size before after
refused_takes before after fault = grind (arith, most_refused, buffer_size, most_refused-few)

pub buffer_takes : (before after : FeedState) → TakesAtMost buffer_size before after →
    TakesAtMost most_taken before after
buffer_takes before after = TakesAtMost-weaker buffer_size most_taken before after (omega arith)

-- the same whatever the bytes are
pub whatever_bytes : (known : Option (List ℕ)) (Q : Type 0) → Q →
    IfSome known (λ bytes. (fault : CaptureFault) → capture_of bytes ≡ Err fault → Q)
whatever_bytes None Q q = tt
whatever_bytes (Some bytes) Q q = λ fault is. q
