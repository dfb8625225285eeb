-- What is found: a certificate, or the first piece of which the samples don't show enough.
use Rattle.std.specs.Prelude.{◌≡◌, ℕ, ◌<◌, Bool, not, true, false, nat_lt, ⊤, unsigned_abs, List, map, Option, Some, None, Result, Ok, Err, if◌then◌else◌}
use Rattle.finder.specs.Common.{find, range_with_len, PieceData, CertificateData, certificate_data, max_pieces, ClaimData, Hull, Sample, piece_end_of, is_inside}
use Rattle.finder.specs.Entry.{best_entries, best_hull}
use Rattle.finder.specs.Piece.{count_of, stretch_at}
use Rattle.finder.specs.declared.fault.FindFault.{FindFault}
use Rattle.finder.specs.declared.fault.FindFault.TheVariants.{TooManyPieces}
use Rattle.finder.specs.declared.found.Found.{Found}
use Rattle.finder.specs.declared.found.Found.TheVariants.{Certificate, Nothing}

-- what is found, as lists and numbers: a certificate; or the number of a piece, and its hull
pub data FoundData : Type 0 where
  certificate : CertificateData → FoundData
  nothing : ℕ → Hull → FoundData

-- what a value of the program says
abbrev pub data_of : Found → FoundData
data_of (Certificate found) = certificate (certificate_data found)
data_of (Nothing piece hull) = nothing piece hull

-- if it is a certificate, this holds of it
abbrev pub IfCertificate : Found → (CertificateData → Type 0) → Type 0
IfCertificate (Certificate found) P = P (certificate_data found)
IfCertificate (Nothing piece hull) P = ⊤

-- if it is none, this holds of the piece and its hull
abbrev pub IfNothing : Found → (ℕ → Hull → Type 0) → Type 0
IfNothing (Certificate found) P = ⊤
IfNothing (Nothing piece hull) P = P piece hull

module _ (samples : List Sample) (claim : ClaimData) (step : ℕ) where
  -- piece k, with the best samples
  abbrev pub piece_at : ℕ → PieceData
  piece_at k = record {
    entries = best_entries samples claim (stretch_at claim step k);
    upto = unsigned_abs (piece_end_of claim.first claim.last step k);
  }

  -- n pieces from number k on
  abbrev pub pieces_from : ℕ → ℕ → List PieceData
  pieces_from k n = map piece_at (range_with_len k n)

  -- the hull of piece k
  abbrev pub hull_at : ℕ → Hull
  hull_at k = best_hull samples claim (stretch_at claim step k)

  -- whether it shows that the error is within the bound
  abbrev pub passes : ℕ → Bool
  passes k = is_inside claim.bound (hull_at k)

  -- the first piece of which it doesn't
  abbrev pub first_failing : Option ℕ
  first_failing = find (λ k. not (passes k)) (range_with_len 0 (count_of claim step))

  -- all pieces if none fails, otherwise the first that does
  abbrev pub found_without : Option ℕ → FoundData
  found_without None = certificate (record { pieces = pieces_from 0 (count_of claim step) })
  found_without (Some k) = nothing k (hull_at k)

  -- what is found: first the pieces are counted
  unfoldable pub found_of : Result FoundData FindFault
  found_of =
      if nat_lt max_pieces (count_of claim step) then Err TooManyPieces
      else Ok (found_without first_failing)

  -- piece k is the first of which the hull, which is this one, isn't inside the bound
  pub record IsFirstFailing (k : ℕ) (hull : Hull) : Type 0 where
    pub of_span : k < count_of claim step
    pub its_hull : hull ≡ hull_at k
    pub fails : is_inside claim.bound hull ≡ false
    pub others_pass : (j : ℕ) → j < k → passes j ≡ true
