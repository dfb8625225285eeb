use Rattle.cover_certificate.proofs.Common.{◌≡◌, ◌<◌, ◌+◌, ◌++◌, length, take, get_or, arith, ap, ◌∙◌, append_assoc, IsHeldCase, case_data, comma_before, case_text}
use Rattle.std.proofs.lemmas.Simd.{map-map}
use Rattle.certificate.proofs.CommaList.{joined_more}
use Rattle.cover_certificate.proofs.OneMore.{held_more}
use Rattle.std.proofs.lemmas.List.Elements.{All-map}
use Rattle.cover_certificate.proofs.writing.push_cases.Goals as goal

pub loop-index-preserved : goal.loop-index-preserved
loop-index-preserved c =
    let i = c.loop-index.index in
    let cases = c.args.cases.now in
    let within : i < length cases = omega arith in
    let d = c.index-cases-index.result in
    let more = joined_more (λ p. case_text (case_data p)) cases i d within in
    let pushed : c.push_case.new.text.items
    ≡ c.loop-index.text.items ++ comma_before i ++ case_text (case_data (get_or cases i d)) =
    c.in_ok-push_case.ensures.text
    ∙ ap (λ p. c.loop-index.text.items ++ comma_before i ++ case_text (case_data p)) c.index-cases-index.is in
    record {
      written = pushed
          ∙ rw (
            c.loop-index.invariant.written,
            map-map case_text case_data (take i cases),
            map-map case_text case_data (take (i + 1) cases),
            more,
          )
          (simp append_assoc);
      held = held_more (λ k. IsHeldCase (case_data k)) cases i d within c.index-cases-index.is
          c.in_ok-push_case.ensures.held c.loop-index.invariant.held;
    }

pub returns-clause-held : goal.returns-clause-held
returns-clause-held c =
    All-map IsHeldCase case_data c.args.cases.now (λ k d less. c.loop-index.invariant.held k d (omega arith))
