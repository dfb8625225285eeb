-- How the verdicts on two certificates, or for two claims, compare.
use Rattle.std.specs.Prelude.{◌≡◌, ℕ, ◌<◌, ◌≤ℤ◌, ◌⊎◌, List, [], ◌∷◌, ◌++◌, length, slice_index, slice_get, All, Any, Some}
use Rattle.checker.specs.Common.{PieceData, CertificateData, Sample, part_of, Part, Stretch}
use Rattle.checker.specs.declared.verdict.Verdict.{Verdict}
use Rattle.checker.specs.declared.verdict.Verdict.TheVariants.{Yes, No}
use Rattle.checker.specs.declared.verdict.Why.{Why}
use Rattle.checker.specs.declared.verdict.Why.TheVariants.{BadSample, MixedServers, RepeatedServer, Contradiction}

-- yes, or no for such a reason
abbrev pub IsYesOr : (Why → Type 0) → Verdict → Type 0
IsYesOr P verdict = (verdict ≡ Yes) ⊎ ((k : ℕ) × (why : Why) × (verdict ≡ No k why) × P why)

-- the samples contradict each other
abbrev pub IsContradiction : Why → Type 0
IsContradiction why = why ≡ Contradiction

-- an entry is refused by itself
abbrev pub IsRefusedEntry : Why → Type 0
IsRefusedEntry why = (why ≡ BadSample) ⊎ ((why ≡ MixedServers) ⊎ (why ≡ RepeatedServer))

-- a certificate with one more entry in one of its pieces
pub record HasOneMoreEntry (certificate more : CertificateData) : Type 0 where
  pub before : List PieceData
  pub piece : PieceData
  pub after : List PieceData
  pub entry : ℕ × ℕ
  pub without : certificate.pieces ≡ before ++ piece ∷ after
  pub with_it : more.pieces
      ≡ before ++ record piece { entries = piece.entries ++ entry ∷ [] } ∷ after

-- a certificate with two neighbouring entries of one of its pieces in the other order
pub record HasEntriesSwapped (certificate swapped : CertificateData) : Type 0 where
  pub before : List PieceData
  pub after : List PieceData
  pub upto : ℕ
  pub front : List (ℕ × ℕ)
  pub first : ℕ × ℕ
  pub second : ℕ × ℕ
  pub back : List (ℕ × ℕ)
  pub is : certificate.pieces
      ≡ before ++ record { entries = front ++ first ∷ second ∷ back; upto = upto } ∷ after
  pub swapped_is : swapped.pieces
      ≡ before ++ record { entries = front ++ second ∷ first ∷ back; upto = upto } ∷ after

-- groups of the same servers, of which each is a part of one group: what was one group may be
-- several, and no two groups are joined
pub record IsTakenApart (groups finer : List ℕ) : Type 0 where
  pub same_servers : length finer ≡ length groups
  pub in_range : All (λ group. group < length groups) finer
  -- the group that a finer one is a part of
  pub whole : ℕ → ℕ
  pub is_part : (server : ℕ) → server < length groups
      → whole (slice_index finer server) ≡ slice_index groups server

-- a part of the same server, whose interval lies in the other's
pub record IsNarrower (part next : Part) : Type 0 where
  pub server : part.server ≡ next.server
  pub low : part.interval.lo ≤ℤ next.interval.lo
  pub high : next.interval.hi ≤ℤ part.interval.hi

-- each part has a narrower one among the others, which may be more
abbrev pub AreNarrower : List Part → List Part → Type 0
AreNarrower parts next = All (λ part. Any (IsNarrower part) next) parts

-- what two samples of one server say in a piece
pub record IsOfSamples (samples : List Sample) (stretch : Stretch) (ppb : ℕ) (part : Part)
    : Type 0 where
  pub low_number : ℕ
  pub high_number : ℕ
  pub low : Sample
  pub high : Sample
  pub low_is : slice_get samples low_number ≡ Some low
  pub high_is : slice_get samples high_number ≡ Some high
  pub one_server : low.server ≡ high.server
  pub is : part ≡ part_of low high stretch ppb
