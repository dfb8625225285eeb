-- What the finder answers to samples of a claim, in pieces of a given number of seconds, and what
-- that says.
use Rattle.std.specs.Prelude.{◌≡◌, ◌≢◌, ◌⊎◌, ◌↔◌, ℕ, ◌<◌, ◌≤◌, List, length, Result, Ok, Err, IfOk, MatchResult}
use Rattle.finder.specs.Common.{max_pieces, ClaimData, Empty, Sample, HoldsError, IsContradicted, verdict_of, Yes}
use Rattle.finder.specs.Envelope as envelope
use Rattle.finder.specs.Envelope.{IsLawfulEnvelope, IsLeast, envelope_of}
use Rattle.finder.specs.Found.{IfCertificate, IfNothing, IsFirstFailing, data_of, found_of, hull_at}
use Rattle.finder.specs.Piece.{count_of, stretch_at}
use Rattle.finder.specs.Refusal.{NoneIsAcceptedOver}
use Rattle.finder.specs.declared.envelope.Envelope.{Envelope}
use Rattle.finder.specs.declared.fault.FindFault.{FindFault}
use Rattle.finder.specs.declared.fault.FindFault.TheVariants.{TooManyPieces, Memory}
use Rattle.finder.specs.declared.found.Found.{Found}

-- what a search for a certificate answers
pub record Finds (samples : List Sample) (claim : ClaimData) (step : ℕ)
    (result : Result Found FindFault) : Type 0 where
  -- out of memory aside, the answer is the definition's
  pub exact : MatchResult result
      (λ found. found_of samples claim step ≡ Ok (data_of found))
      (λ fault. (fault ≡ Memory) ⊎ (found_of samples claim step ≡ Err fault))
  -- the pieces are counted before any memory is taken: this fault is never reported as another
  pub too_many : (result ≡ Err TooManyPieces) ↔ (max_pieces < count_of claim step)
  -- the checker accepts a certificate that is found
  pub accepted : IfOk result (λ found. IfCertificate found (λ certificate.
      verdict_of samples claim certificate ≡ Yes))
  -- and it has no more pieces than a certificate may have
  pub few : IfOk result (λ found. IfCertificate found (λ certificate.
      length certificate.pieces ≤ max_pieces))
  -- if none is found, the piece is the first that fails, with its own hull
  pub failing : IfOk result (λ found. IfNothing found (IsFirstFailing samples claim step))
  -- then no other certificate is accepted that has a piece over the whole of the one that fails
  pub none_accepted : IfOk result (λ found. IfNothing found (λ piece hull. hull ≢ Empty →
      NoneIsAcceptedOver samples claim (stretch_at claim step piece)))
  -- or the samples contradict each other there, so that no course of events has a reading in it
  pub contradiction : IfOk result (λ found. IfNothing found (λ piece hull. hull ≡ Empty →
      IsContradicted claim samples (stretch_at claim step piece)))
  -- in every course that fits, the error lies in the hull at every moment whose reading lies in
  -- the piece
  pub held : IfOk result (λ found. IfNothing found (λ piece hull.
      HoldsError claim samples (stretch_at claim step piece) hull))

-- what a search for the least bound answers
pub record FindsEnvelope (samples : List Sample) (claim : ClaimData) (step : ℕ)
    (result : Result Envelope FindFault) : Type 0 where
  -- out of memory aside, the answer is the definition's
  pub exact : MatchResult result
      (λ found. envelope_of samples claim step ≡ Ok (envelope.data_of found))
      (λ fault. (fault ≡ Memory) ⊎ (envelope_of samples claim step ≡ Err fault))
  -- the pieces are counted before any memory is taken: this fault is never reported as another
  pub too_many : (result ≡ Err TooManyPieces) ↔ (max_pieces < count_of claim step)
  -- the bound is the least of the hulls of all pieces
  pub least : IfOk result (λ found.
      IsLeast (hull_at samples claim step) (count_of claim step) found.least)
  -- what is given keeps the limits that whoever shows it asks for
  pub lawful : IfOk result (IsLawfulEnvelope (length samples))
