-- The pieces of an envelope, one after another.
use Rattle.finder.proofs.Common.{◌≡◌, ℕ, ◌+◌, ◌<◌, ◌≤◌, List, [], ◌∷◌, ◌++◌, length, Ok, Err, inl, inr, refl, sym, ap, ◌∙◌, arith, add-one, All, ◌↔◌, IsErrAnd, range_with_len, get_or, lt-ltb, le-ltb, map-range_with_len_more, max_pieces, ClaimData, IsLawful, Hull, Sample, FindsEnvelope, EnvelopeData, PieceHullData, IsLawfulEnvelope, IsLawfulPiece, IsLeast, piece_hull_at, piece_hulls, least_of, with_piece, envelope_of, envelope_to, hull_at, count_of, stretch_at, FindFault, TooManyPieces, Memory, LeastBound}
use Rattle.std.specs.Prelude.{Result, ◌⊎◌}
use Rattle.std.proofs.lemmas.List.Elements.{All-map}
use Rattle.finder.specs.Envelope.{data_of}
use Rattle.finder.specs.declared.envelope.Envelope.{Envelope}
use Rattle.finder.proofs.EntryList.{entries_there}
use Rattle.finder.proofs.Bound.{least_is_least}
use Rattle.finder.proofs.SpanPieces.{IsPieceCount-piece_count_of, piece_of_claim}

module _ (samples : List Sample) (claim : ClaimData) (step : ℕ) where
  pub envelope_of_many : max_pieces < count_of claim step → envelope_of samples claim step ≡ Err TooManyPieces
  unfolding envelope_of
  envelope_of_many many = rw (lt-ltb _ _ many) refl

  pub envelope_of_few : count_of claim step ≤ max_pieces
      → envelope_of samples claim step ≡ Ok (envelope_to samples claim step (count_of claim step))
  unfolding envelope_of
  envelope_of_few few = rw (le-ltb _ _ few) refl

  -- one more piece
  pub piece_hulls_more : (k : ℕ) (old : List PieceHullData) (piece : PieceHullData)
      → old ≡ piece_hulls samples claim step k → piece ≡ piece_hull_at samples claim step k
      → old ++ piece ∷ [] ≡ piece_hulls samples claim step (k + 1)
  piece_hulls_more k old piece so_far is =
      rw (so_far, is) (sym (map-range_with_len_more (piece_hull_at samples claim step) 0 k k (omega arith)))

  pub least_more : (k : ℕ) (old : LeastBound) (hull : Hull) → old ≡ least_of (hull_at samples claim step) k
      → hull ≡ hull_at samples claim step k
      → with_piece old k hull ≡ least_of (hull_at samples claim step) (k + 1)
  least_more k old hull a b = rw (add-one, a, b) refl

  pub envelope_is : (n : ℕ) (pieces : List PieceHullData) (least : LeastBound)
      → pieces ≡ piece_hulls samples claim step n → least ≡ least_of (hull_at samples claim step) n
      → ◌≡◌ {A = EnvelopeData} (record { pieces = pieces; least = least }) (envelope_to samples claim step n)
  envelope_is n pieces least a b = rw (a, b) refl

  -- ---- each piece is lawful

  module _ (lawful : IsLawful claim) where
    lawful_piece : (k : ℕ) → IsLawfulPiece (length samples) (piece_hull_at samples claim step k)
    lawful_piece k = record {
      stretch = piece_of_claim claim lawful step k;
      named = entries_there samples claim (stretch_at claim step k);
    }

    pub lawful_pieces : (n : ℕ) → All (IsLawfulPiece (length samples)) (piece_hulls samples claim step n)
    lawful_pieces n =
        All-map (IsLawfulPiece (length samples)) (piece_hull_at samples claim step) (range_with_len 0 n)
        (λ k d below. lawful_piece (get_or (range_with_len 0 n) k d))

  -- ---- the answer

  refuses : (fault : FindFault) → (fault ≡ Memory) ⊎ (envelope_of samples claim step ≡ Err fault)
      → (◌≡◌ {A = Result Envelope FindFault} (Err fault) (Err TooManyPieces)) ↔ (max_pieces < count_of claim step)
      → FindsEnvelope samples claim step (Err fault)
  refuses fault exact too_many = record { exact = exact; too_many = too_many; least = tt; lawful = tt }

  pub envelope_many : max_pieces < count_of claim step → FindsEnvelope samples claim step (Err TooManyPieces)
  envelope_many many = refuses TooManyPieces (inr (envelope_of_many many)) (λ is. many, λ over. refl)

  pub envelope_without_memory : count_of claim step ≤ max_pieces → (result : Result Envelope FindFault)
      → IsErrAnd result (λ fault. fault ≡ Memory) → FindsEnvelope samples claim step result
  envelope_without_memory few (Ok found) is = absurd is
  envelope_without_memory few (Err fault) is = refuses fault (inl is) (λ e. absurd cc, λ many. absurd (omega arith))

  pub envelope_few : count_of claim step ≤ max_pieces
      → IsLeast (hull_at samples claim step) (count_of claim step)
      (least_of (hull_at samples claim step) (count_of claim step))
      → (found : Envelope) → data_of found ≡ envelope_to samples claim step (count_of claim step)
      → IsLawfulEnvelope (length samples) found → FindsEnvelope samples claim step (Ok found)
  envelope_few few least found is lawful = record {
    exact = envelope_of_few few ∙ ap Ok (sym is);
    too_many = (λ is. absurd cc, λ many. absurd (omega arith));
    least = rw (ap (λ (e : EnvelopeData). e.least) is) least;
    lawful = lawful;
  }

pub ruleset envelope_answers =
    (envelope_many, envelope_without_memory, envelope_few, least_is_least, IsPieceCount-piece_count_of)
