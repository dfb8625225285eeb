-- What a verdict shows.
use Rattle.std.proofs.Common.{rules}
use Rattle.audit.proofs.Common.{Bool, List, ℕ, Some, refl, sym, AnyData, BytesLaws, ByCovers, CertificateData, CoverCertificateData, CoverVerdict, EvidenceData, HasVerdict, IsBytes, IsCoverVerdictOn, IsEnoughFor, IsEvidenceOf, IsTracedTo, IsVerdictOn, No, OfPieces, Outcome, ShowsOf, Style, Verdict, Yes, by_covers, certificate_read, certificate_said, certificate_second, check, of_pieces, outcome_of, samples_in}
use Rattle.checker.specs.declared.verdict.Verdict.TheVariants as verdicts
use Rattle.cover_checker.specs.declared.verdict.CoverVerdict.TheVariants as covers
use Rattle.line_writer.specs.declared.field.Style.TheVariants as styles
use Rattle.audit.proofs.Showing.{covers_shown, covers_traced, covers_traced_to, memory_unfound, of_inputs, of_second, pieces_traced, said_is, traced_to}
use Rattle.audit.specs.Check.{AreNamedTraced, GiveSecond, IsNoOn, IsTracedFrom, IsYesOn, ShowsInRelations}

-- that it is known whether any course fits is enough in any style
pub fits_known : (style : Style) (fits : Bool) → IsEnoughFor style (Some fits)
fits_known styles.Plain fits = refl
fits_known _ fits = refl

pub ruleset fits_found = (memory_unfound, fits_known)

module _ (e : EvidenceData) where
  -- what the outcome of a verdict shows, on a certificate of pieces
  pub pieces_show : (certificate : CertificateData) (verdict : Verdict) →
      IsVerdictOn e.claim (samples_in e) certificate verdict →
      HasVerdict (of_pieces certificate) e (outcome_of (OfPieces verdict))
  pieces_show certificate verdicts.Yes settled = search (rules, settled.yes, settled.by_pieces)
  pieces_show certificate (verdicts.No piece why) settled = search rules

  -- and on one by covers
  pub covers_show : (certificate : CoverCertificateData) (verdict : CoverVerdict) →
      IsCoverVerdictOn e.claim e.collection.exchanges certificate verdict →
      HasVerdict (by_covers certificate) e (outcome_of (ByCovers verdict))
  covers_show certificate covers.Yes settled = record {
    accepted = settled.accepted.0 refl;
    whole = settled.yes refl;
    named = settled.by_covers refl;
  }
  covers_show certificate verdict settled = record {
    verdict = verdict;
    verdict_is = sym settled.exact;
    is = settled.is;
    no_yes = λ yes. absurd cc;
  }

  -- ---- what a yes shows of the bytes that give the evidence

  module _ (laws : BytesLaws) (b f : List ℕ) (is : IsEvidenceOf b f e) where
    whole : (certificate : AnyData) → IsYesOn certificate e → IsTracedTo b f
    whole (of_pieces certificate) h = traced_to laws b f e is certificate h
    whole (by_covers certificate) h = covers_traced_to laws b f e is certificate h

    named : (certificate : AnyData) → IsYesOn certificate e → AreNamedTraced certificate e
    named (of_pieces certificate) h = pieces_traced laws b f e is certificate h
    named (by_covers certificate) h = covers_traced laws b f e is certificate h

    in_relations : (certificate : AnyData) → IsYesOn certificate e → IsBytes f → ShowsInRelations certificate b f
    in_relations (of_pieces certificate) h bytes =
        laws.headline b f e.claim e.collection certificate bytes is.claim_is is.collection_is h.verdict_is
    in_relations (by_covers certificate) h bytes = covers_shown laws b f e is certificate h bytes

  -- the bytes of any inputs that say the certificate and give the evidence show the same
  pub verdict_shown : (certificate : AnyData) (about : List ℕ) → BytesLaws → (outcome : Outcome) →
      HasVerdict certificate e outcome →
      ShowsOf (check about) certificate_second (certificate_said certificate) e outcome
  verdict_shown certificate about laws Yes h claim second capture are =
      let said = said_is certificate_said (λ t u same. cc) certificate certificate_read second.remaining
      are.second_is in
      of_inputs e (IsTracedFrom second.remaining) (λ b f is. record {
        whole = whole laws b f is certificate h;
        shown = λ bytes. record {
          certificate = certificate;
          said_is = said;
          shown = in_relations laws b f is certificate h bytes;
        };
        by_pieces = of_second certificate_said (λ t u same. cc) certificate certificate_read AreNamedTraced e
            (named laws b f is certificate h) second.remaining are.second_is b f is;
      }) claim second capture are
  verdict_shown certificate about laws No h claim second capture are =
      of_inputs e (GiveSecond certificate_read IsNoOn second.remaining)
      (of_second certificate_said (λ t u same. cc) certificate certificate_read IsNoOn e h second.remaining
      are.second_is) claim second capture are
