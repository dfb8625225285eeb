-- What is read of a capture is what its bytes give.
use Rattle.std.proofs.Common.{rules}
use Rattle.audit.proofs.Common.{◌≡◌, ℕ, List, Option, Some, None, Result, Ok, Err, ap, inl, inr, IfSome, CaptureFault, Coming, capture_of, AllRemains, ClaimData, PairFault, IsAnswerTo, compact_data, Collection, IsFromOutside, Reads, HasLawfulHeader, capture_read, collection_read, pair_run_fault_of, run_fault_of, arith, ints, nat_tests}
use Rattle.pcap_reader.specs.declared.fault.CaptureFault.TheVariants as captures
use Rattle.pcap_reader.specs.Refusal.{IsRefusal}
use Rattle.pairing.specs.declared.compact.CompactCollection.{CompactCollection}
use Rattle.pairing.specs.declared.fault.PairFault.TheVariants as pairs
use Rattle.pairing.specs.Answer.{IsFromOutside as is_pair_from_outside}

module _ (claim : ClaimData) where
  of_capture : (bytes : List ℕ) (c : Result Coming CaptureFault) → capture_of bytes ≡ c →
      capture_read claim bytes ≡ collection_read claim c
  unfolding capture_read
  of_capture bytes c is = ap (collection_read claim) is

  -- the exchanges were collected
  pub capture_is_read : (known : Option (List ℕ)) (remaining : Option Coming) (held : CompactCollection) →
      IfSome known (λ bytes. AllRemains bytes remaining) → IfSome remaining (IsAnswerTo compact_data claim (Ok held)) →
      IfSome known (λ bytes. Reads compact_data (capture_read claim bytes) (Ok held))
  capture_is_read None remaining held all exact = tt
  capture_is_read (Some bytes) None held (coming, is, same) exact = cc
  capture_is_read (Some bytes) (Some now) held (coming, is, same) exact = grind (arith, ints, nat_tests, of_capture)

  outside : (fault : PairFault) → is_pair_from_outside fault → IsFromOutside (pair_run_fault_of fault)
  outside pairs.Memory h = tt
  outside (pairs.Capture captures.Read) h = tt
  outside fault h = absurd h

  -- they couldn't be
  pub capture_unread : (known : Option (List ℕ)) (remaining : Option Coming) (fault : PairFault) →
      IfSome known (λ bytes. AllRemains bytes remaining) →
      IfSome remaining (IsAnswerTo compact_data claim (Err fault)) →
      IfSome known (λ bytes. Reads compact_data (capture_read claim bytes) (Err (pair_run_fault_of fault)))
  capture_unread None remaining fault all exact = tt
  capture_unread (Some bytes) None fault (coming, is, same) exact = cc
  capture_unread (Some bytes) (Some now) fault (coming, is, same) (inl h) = inl (outside fault h)
  capture_unread (Some bytes) (Some now) fault (coming, is, same) (inr exact) =
      grind (arith, ints, nat_tests, of_capture)

  -- the capture's header is refused
  pub capture_refused : (known : Option (List ℕ)) (fault : CaptureFault) → IsRefusal known fault →
      IfSome known (λ bytes. Reads compact_data (capture_read claim bytes) (Err (run_fault_of fault)))
  capture_refused None fault refusal = tt
  capture_refused (Some bytes) captures.Read refusal = inl tt
  capture_refused (Some bytes) captures.Memory refusal = inl tt
  capture_refused (Some bytes) fault refusal = inr (of_capture bytes (Err fault) refusal.1)

-- ---- the header

-- a capture that was read has a lawful header
pub header_was_read : (claim : ClaimData) (known : Option (List ℕ)) (collection : Collection) →
    IfSome known (λ bytes. capture_read claim bytes ≡ Ok collection) → HasLawfulHeader known
header_was_read claim known collection is = search (rules, of_capture)
