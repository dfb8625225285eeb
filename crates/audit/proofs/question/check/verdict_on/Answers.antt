use Rattle.audit.proofs.Common.{ap, subst, sym, AnyData, ByCovers, HasVerdict, OfPieces, any_data, certificate_data, evidence_data, outcome_of}
use Rattle.cover_certificate.specs.CoverCertificate.{data_of}
use Rattle.audit.proofs.VerdictShowing.{covers_show, pieces_show}
use Rattle.audit.proofs.question.check.verdict_on.Goals as goal

pub returns-in-OfPieces-clause-shows : goal.returns-in-OfPieces-clause-shows
returns-in-OfPieces-clause-shows c =
    let e = evidence_data c.args.evidence.now in
    let verdict = c.check_exchanges.result in
    let settled = rw c.deref.ensures.value at c.check_exchanges.ensures in
    subst (λ (d : AnyData). HasVerdict d e (outcome_of (OfPieces verdict))) (ap any_data (sym c.in-OfPieces.is))
    (pieces_show e (certificate_data c.in-OfPieces.pieces) verdict settled)

pub returns-in-ByCovers-clause-shows : goal.returns-in-ByCovers-clause-shows
returns-in-ByCovers-clause-shows c =
    let e = evidence_data c.args.evidence.now in
    let verdict = c.check_covers.result in
    let settled = rw c.deref-in-ByCovers.ensures.value at c.check_covers.ensures in
    subst (λ (d : AnyData). HasVerdict d e (outcome_of (ByCovers verdict))) (ap any_data (sym c.in-ByCovers.is))
    (covers_show e (data_of c.in-ByCovers.covers) verdict settled)
