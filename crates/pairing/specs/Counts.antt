-- How the counts grow.
use Rattle.std.specs.Prelude.{◌≡◌, ℕ, ◌+◌, ◌^◌, ◌<◌, ◌==◌, ◌||◌, List, count_by, Result, Ok, Err, if◌then◌else◌}
use Rattle.pairing.specs.Common.{filter_map, result_ok}
use Rattle.pairing.specs.declared.counts.Counts.{Counts}
use Rattle.pairing.specs.declared.exchange.Exchange.{Exchange}
use Rattle.pairing.specs.declared.refusal.Refusal.{Refusal}
use Rattle.pairing.specs.declared.refusal.Refusal.TheVariants.{Version, Leap, Stratum, Precision, ZeroStamp, NoRequest, Ambiguous}
use Rattle.pairing.specs.Pairing.{is_warning, refused_for}

-- how many replies are refused for a reason
abbrev pub count_for : Refusal → Counts → ℕ
count_for Version counts = counts.version
count_for Leap counts = counts.leap
count_for Stratum counts = counts.stratum
count_for Precision counts = counts.precision
count_for ZeroStamp counts = counts.zero_stamp
count_for NoRequest counts = counts.no_request
count_for Ambiguous counts = counts.ambiguous

-- nothing is counted yet
abbrev pub zero_counts : Counts
zero_counts = record {
  records = 0;
  requests = 0;
  replies = 0;
  version = 0;
  leap = 0;
  stratum = 0;
  precision = 0;
  zero_stamp = 0;
  no_request = 0;
  ambiguous = 0;
  warnings = 0;
}

-- the counts with one more refused reply
abbrev pub with_refusal : Refusal → Counts → Counts
with_refusal Version counts = record counts { version = counts.version + 1 }
with_refusal Leap counts = record counts { leap = counts.leap + 1 }
with_refusal Stratum counts = record counts { stratum = counts.stratum + 1 }
with_refusal Precision counts = record counts { precision = counts.precision + 1 }
with_refusal ZeroStamp counts = record counts { zero_stamp = counts.zero_stamp + 1 }
with_refusal NoRequest counts = record counts { no_request = counts.no_request + 1 }
with_refusal Ambiguous counts = record counts { ambiguous = counts.ambiguous + 1 }

-- the counts with one more exchange whose reply has this leap indicator
abbrev pub with_leap : ℕ → Counts → Counts
with_leap leap counts =
    record counts { warnings = counts.warnings + (if leap == 1 || leap == 2 then 1 else 0) }

-- the counts with one more reply of this outcome
abbrev pub with_outcome : Result Exchange Refusal → Counts → Counts
with_outcome (Ok x) counts = with_leap x.leap counts
with_outcome (Err refusal) counts = with_refusal refusal counts

-- What is collected of these outcomes, from these counts on.
pub record IsJoined (start : Counts) (outcomes : List (Result Exchange Refusal))
    (exchanges : List Exchange) (counts : Counts) : Type 0 where
  pub exchanges_are : exchanges ≡ filter_map result_ok outcomes
  pub refused : (reason : Refusal) → count_for reason counts
      ≡ count_for reason start + refused_for reason outcomes
  pub warned : counts.warnings ≡ start.warnings + count_by is_warning exchanges
  pub same_records : counts.records ≡ start.records
  pub same_requests : counts.requests ≡ start.requests
  pub same_replies : counts.replies ≡ start.replies

-- `more` of each can still be counted
pub record HasRoom (counts : Counts) (more : ℕ) : Type 0 where
  pub records : counts.records + more < 2 ^ 32
  pub requests : counts.requests + more < 2 ^ 32
  pub replies : counts.replies + more < 2 ^ 32
  pub refused : (reason : Refusal) → count_for reason counts + more < 2 ^ 32
  pub warned : counts.warnings + more < 2 ^ 32
