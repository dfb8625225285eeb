use Rattle.audit.proofs.Common.{ℤ, refl, sym, subst, IsInWindow, are_samples, stretch_of, samples_of}
use Rattle.audit.proofs.Admission.{some_admitted, none_beyond}
use Rattle.audit.proofs.Headline.{piece_of}
use Rattle.audit.proofs.laws.yes_shows_the_headline.Goals as goal

pub returns : goal.returns
returns c text bytes claim collection certificate all claim_read' capture_read' yes' =
    let xs = collection.exchanges in
    let read = c.what_is_read_is_said.ensures text bytes (record { claim = claim; collection = collection }) all
    (record { claim_is = claim_read'; collection_is = capture_read' }) in
    let lawful = read.lawful in
    let accepted = (c.yes_is_acceptance.ensures (samples_of xs claim) claim certificate).0 yes' in
    let shown = c.verdicts_are_traceable.ensures claim (samples_of xs claim) certificate lawful
    (are_samples xs claim lawful read.kept.each) in
    record {
      claim = claim;
      exchanges = xs;
      said = read.said;
      within = λ n reading observed.
          let in_span = subst (λ (end : ℤ). IsInWindow n claim.first end reading) (sym accepted.ends_with_span)
          observed in
          let (k, held) = c.pieces_hold_every_reading.ensures n reading claim.first certificate.pieces
          accepted.some_piece in_span in
          let (piece, at, inside) = piece_of (λ stretch. IsInWindow n stretch.begin stretch.end reading) claim.first
          certificate.pieces k held in
          let stretch = stretch_of claim certificate k piece in
          let bound = accepted.each k piece at in
          let widenings = c.widening_is_one_number.ensures.is in (
            piece.entries,
            stretch.begin,
            stretch.end,
            inside,
            (bound.lo, some_admitted widenings claim lawful.drift_in_range xs stretch piece.entries bound),
            none_beyond widenings claim lawful.drift_in_range xs stretch piece.entries bound,
            λ course same_n same_reading fits.
                c.bounds_of_bytes_hold_in_nanoseconds.ensures text claim course claim_read'
                (shown.by_pieces yes' xs k piece course refl at fits (rw (same_n, same_reading) inside)),
          );
    }
