-- What is gathered of a capture's records so far.
use Rattle.std.specs.Prelude.{◌≡◌, ℕ, ◌+◌, List, [], ◌∷◌, length, map, filter, count_by, is_none, Bool, false, Option, Some, None}
use Rattle.pairing.specs.Common.{RecordHead, Record, ClaimData}
use Rattle.pairing.specs.declared.counts.Counts.{Counts}
use Rattle.pairing.specs.declared.compact.CompactExchange.{CompactExchange}
use Rattle.pairing.specs.declared.index.IndexedRequest.{IndexedRequest}
use Rattle.pairing.specs.declared.message.Message.{Message}
use Rattle.pairing.specs.declared.message.Message.TheVariants.{Request as Asks, Refused, Reply as Waits}
use Rattle.pairing.specs.declared.refusal.Refusal.{Refusal}
use Rattle.pairing.specs.Counts.{count_for, with_refusal}
use Rattle.pairing.specs.Compact.{compact_of}
use Rattle.pairing.specs.Index.{indexed_of, request_at}
use Rattle.pairing.specs.Message.{Request, Reply}
use Rattle.pairing.specs.Pairing.{requests_of, replies_of}
use Rattle.pairing.specs.Refusal.{refusal_of, same_refusal}

-- the counts with a record that says this
abbrev pub counts_with : Option Message → Counts → Counts
counts_with None counts = record counts { records = counts.records + 1 }
counts_with (Some (Asks key)) counts =
    record counts { records = counts.records + 1; requests = counts.requests + 1 }
counts_with (Some (Refused refusal)) counts =
    with_refusal refusal
    (record counts { records = counts.records + 1; replies = counts.replies + 1 })
counts_with (Some (Waits reply)) counts =
    record counts { records = counts.records + 1; replies = counts.replies + 1 }

-- the request of a record that says this, as it is kept
abbrev pub indexed_in : Option Message → RecordHead → List IndexedRequest
indexed_in (Some (Asks key)) head = indexed_of (request_at key head) ∷ []
indexed_in _ head = []

-- the reply of a record that says this, if it is held
abbrev pub compact_in : Option Message → List CompactExchange
compact_in (Some (Waits reply)) = reply ∷ []
compact_in _ = []

-- whether a reply's own header refuses it for this reason
abbrev pub is_for : Refusal → Option Refusal → Bool
is_for reason None = false
is_for reason (Some refusal) = same_refusal refusal reason

abbrev pub is_early : Refusal → Reply → Bool
is_early reason reply = is_for reason (refusal_of reply.header)

-- whether a reply's own header is accepted
abbrev pub is_accepted : Reply → Bool
is_accepted reply = is_none (refusal_of reply.header)

-- Lists of requests that are kept and of replies that are held, and counts, are those of this many
-- records with these requests and replies.
pub record IsGathered (records : ℕ) (requests : List Request) (replies : List Reply)
    (kept : List IndexedRequest) (held : List CompactExchange) (counts : Counts) : Type 0 where
  pub keeps : kept ≡ map indexed_of requests
  pub holds : held ≡ map compact_of (filter is_accepted replies)
  pub all_records : counts.records ≡ records
  pub all_requests : counts.requests ≡ length requests
  pub all_replies : counts.replies ≡ length replies
  pub refused : (reason : Refusal) → count_for reason counts ≡ count_by (is_early reason) replies
  pub warned : counts.warnings ≡ 0

-- They are those of these records.
abbrev pub IsGatheredFrom : ClaimData → List Record → List IndexedRequest → List CompactExchange →
    Counts → Type 0
IsGatheredFrom claim records kept held counts =
    IsGathered (length records) (requests_of claim records) (replies_of claim records)
    kept held counts
