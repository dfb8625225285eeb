-- What an envelope shows.
use Rattle.audit.proofs.Common.{◌≡◌, ◌∙◌, ◌≤◌, ℕ, List, length, Ok, refl, sym, ap, subst, arith, ⊎_elim, cases_lt, length-map, All-map, All, range_with_len, max_pieces, ClaimData, Sample, HoldsError, Stretch, FindsEnvelope, IsEnvelopeOf, bound_outcome, EvidenceData, samples_in, count_of}
use Rattle.std.proofs.lemmas.List.FromFn.{length-map-range_with_len}
use Rattle.finder.proofs.EnvelopePieces.{envelope_of_few, envelope_of_many}
use Rattle.finder.specs.declared.envelope.Envelope.{Envelope as FoundEnvelope}
use Rattle.finder.specs.Entry.{best_hull}
use Rattle.finder.specs.Envelope.{EnvelopeData, PieceHullData, data_of, envelope_of, envelope_to, piece_data, piece_hull_at}

-- ---- the pieces

module _ (samples : List Sample) (claim : ClaimData) (step : ℕ) where
  -- few enough pieces, and the envelope is theirs
  record IsWhole (envelope : EnvelopeData) : Type 0 where
    few : count_of claim step ≤ max_pieces
    same : envelope ≡ envelope_to samples claim step (count_of claim step)

  whole : (envelope : EnvelopeData) → envelope_of samples claim step ≡ Ok envelope → IsWhole envelope
  whole envelope e = ⊎_elim
      (λ many. let refused = envelope_of_many samples claim step many in absurd cc)
      (λ few. let found = envelope_of_few samples claim step few in record { few = few; same = cc })
      (cases_lt max_pieces (count_of claim step))

  -- an envelope that is held in memory has no more pieces than a certificate
  pub count_is_few : (envelope : FoundEnvelope) → envelope_of samples claim step ≡ Ok (data_of envelope) →
      count_of claim step ≤ max_pieces
  count_is_few envelope e = (whole (data_of envelope) e).few

  pub few_pieces : (envelope : FoundEnvelope) → envelope_of samples claim step ≡ Ok (data_of envelope) →
      length envelope.pieces.items ≤ max_pieces
  few_pieces envelope e =
      let is = whole (data_of envelope) e in
      let count = ap (λ (d : EnvelopeData). length d.pieces) is.same
      ∙ length-map-range_with_len (piece_hull_at samples claim step) 0 (count_of claim step) in
      omega (arith, is.few, length-map envelope.pieces.items piece_data, count)

-- ---- the whole

-- what its outcome shows
pub envelope_shows : (step : ℕ) (e : EvidenceData)
    → ((stretch : Stretch) → HoldsError e.claim (samples_in e) stretch (best_hull (samples_in e) e.claim stretch))
    → (envelope : FoundEnvelope) → FindsEnvelope (samples_in e) e.claim step (Ok envelope)
    → IsEnvelopeOf step (bound_outcome envelope.least) e
envelope_shows step e law envelope finds =
    let samples = samples_in e in
    let is = whole samples e.claim step (data_of envelope) finds.exact in
    let Holds = λ (piece : PieceHullData). HoldsError e.claim samples piece.stretch piece.hull in
    let holds = subst (λ (d : EnvelopeData). All Holds d.pieces) (sym is.same) (All-map Holds
    (piece_hull_at samples e.claim step) (range_with_len 0 (count_of e.claim step)) (λ k d within. law _)) in
    record {
      envelope = data_of envelope;
      envelope_is = finds.exact;
      holds_error = holds;
      empty = λ k d within empty. rw empty at (holds k d within);
      bound = finds.least;
      outcome_is = refl;
    }

pub ruleset few_enough = (count_is_few, few_pieces)
