-- What it takes that a certificate is accepted, as one fact. The verdict's definition says the same
-- as tests, one after another.
--
-- The pieces share their ends, and together they are the span. Each names samples of one server in
-- an entry and no server twice, and the hull over the groups lies inside the bound.
use Rattle.std.specs.Prelude.{◌≡◌, ◌≢◌, ℕ, ◌<◌, ℤ, neg_ℤ, ◌≤ℤ◌, List, length, AllPairs, Some, slice_get}
use Rattle.checker.specs.Common.{AllZip, PieceData, CertificateData, ClaimData, IsHull, Bounded, Sample, group_intervals, part_of, Part, Stretch}
use Rattle.checker.specs.Stretch.{stretch_of, last_end}

-- a part is what an entry says, by two samples of one server
pub record IsSaidBy (samples : List Sample) (stretch : Stretch) (ppb : ℕ) (entry : ℕ × ℕ)
    (part : Part) : Type 0 where
  pub low : Sample
  pub high : Sample
  pub low_is : slice_get samples entry.0 ≡ Some low
  pub high_is : slice_get samples entry.1 ≡ Some high
  pub one_server : low.server ≡ high.server
  pub is : part ≡ part_of low high stretch ppb

-- the parts are what the entries say, one each in their order
abbrev pub AreSaidBy : List Sample → Stretch → ℕ → List (ℕ × ℕ) → List Part → Type 0
AreSaidBy samples stretch ppb entries parts =
    AllZip (IsSaidBy samples stretch ppb) entries parts

-- the entries show that the error is within the bound over a stretch
pub record ShowBound (samples : List Sample) (claim : ClaimData) (stretch : Stretch)
    (entries : List (ℕ × ℕ)) : Type 0 where
  -- the stretch doesn't end before it begins, or after the span
  pub forward : stretch.begin ≤ℤ stretch.end
  pub in_span : stretch.end ≤ℤ claim.last
  -- each entry is of one server, and no other entry is of that server
  pub parts : List Part
  pub said : AreSaidBy samples stretch claim.drift_ppb entries parts
  pub no_server_twice : AllPairs (λ part later. part.server ≢ later.server) parts
  -- the hull over the groups is bounded, and lies inside the bound to either side
  pub lo : ℤ
  pub hi : ℤ
  pub hull : IsHull (group_intervals claim.groups parts) claim.false_max (Bounded lo hi)
  pub above : neg_ℤ claim.bound ≤ℤ lo
  pub below : hi ≤ℤ claim.bound

-- the certificate is accepted
pub record IsAccepted (samples : List Sample) (claim : ClaimData) (certificate : CertificateData)
    : Type 0 where
  -- there is a piece, the last ends with the span, and each shows that the error is within the
  -- bound from where the one before it ends
  pub some_piece : 0 < length certificate.pieces
  pub ends_with_span : last_end claim.first certificate.pieces ≡ claim.last
  pub each : (k : ℕ) (piece : PieceData) → slice_get certificate.pieces k ≡ Some piece
      → ShowBound samples claim (stretch_of claim certificate k piece) piece.entries
