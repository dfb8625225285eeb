-- A claim, and the exchanges of a capture that is held against it.
use Rattle.std.specs.Prelude.{◌≡◌, ℕ, List, length, Ok, IfSome}
use Rattle.audit.specs.Common.{FeedState, ClaimData, IsLawful, data_of as claim_data, AreLawful, compact_data, Collection, Sample, samples_of, claim_read}
use Rattle.audit.specs.CaptureInput.{capture_read}
use Rattle.audit.specs.declared.evidence.Evidence.{Evidence}

-- a claim and what is collected of a capture
pub record EvidenceData : Type 0 where
  pub claim : ClaimData
  pub collection : Collection

abbrev pub evidence_of : ClaimData → Collection → EvidenceData
evidence_of claim collection = record { claim = claim; collection = collection }

-- what a value of the program says
abbrev pub evidence_data : Evidence → EvidenceData
evidence_data e = evidence_of (claim_data e.claim) (compact_data e.held)

-- the claim and the exchanges keep their limits
pub record IsLawfulEvidence (e : Evidence) : Type 0 where
  pub claim : IsLawful (claim_data e.claim)
  pub exchanges : AreLawful (length e.claim.servers.items) (compact_data e.held).exchanges

-- what its exchanges say, with the claimed allowance
abbrev pub samples_in : EvidenceData → List Sample
samples_in e = samples_of e.collection.exchanges e.claim

-- This is what the bytes of a claim and of a capture give.
pub record IsEvidenceOf (claim capture : List ℕ) (e : EvidenceData) : Type 0 where
  pub claim_is : claim_read claim ≡ Ok e.claim
  pub collection_is : capture_read e.claim capture ≡ Ok e.collection

-- These bytes give evidence for which this holds.
pub record GiveEvidence (P : EvidenceData → Type 0) (claim capture : List ℕ) : Type 0 where
  pub evidence : EvidenceData
  pub evidence_is : IsEvidenceOf claim capture evidence
  pub holds : P evidence

-- if the bytes of claim and capture are known, this holds of them
abbrev pub OfClaimAndCapture : FeedState → FeedState → (List ℕ → List ℕ → Type 0) → Type 0
OfClaimAndCapture claim capture P =
    IfSome claim.remaining (λ c. IfSome capture.remaining (P c))
