-- What it says that no certificate was found.
use Rattle.std.specs.Prelude.{◌≡◌, ℕ, ◌≤ℤ◌, List, slice_get, IsSomeAnd}
use Rattle.finder.specs.Common.{CertificateData, ClaimData, Sample, stretches_of, verdict_of, Stretch, Yes}

-- one stretch holds the whole of another
abbrev pub HoldsWhole : Stretch → Stretch → Type 0
HoldsWhole outer inner = (outer.begin ≤ℤ inner.begin) × (inner.end ≤ℤ outer.end)

-- a piece of the certificate holds the whole of a stretch
abbrev pub HasPieceOver : ClaimData → CertificateData → Stretch → Type 0
HasPieceOver claim certificate stretch =
    (k : ℕ) × IsSomeAnd (slice_get (stretches_of claim certificate) k)
    (λ piece. HoldsWhole piece stretch)

-- no certificate with such a piece is accepted
abbrev pub NoneIsAcceptedOver : List Sample → ClaimData → Stretch → Type 0
NoneIsAcceptedOver samples claim stretch = (certificate : CertificateData)
    → HasPieceOver claim certificate stretch → ¬ (verdict_of samples claim certificate ≡ Yes)
