use Rattle.certificate.proofs.Common.{◌≡◌, ◌∙◌, Ok, ap, string_bytes, IfOk, view, compact_text, has_float, refutation_of, refutation_text}
use Rattle.std.proofs.lemmas.Result.{IfOk-weaker}
use Rattle.std.specs.Prelude.{false}
use Rattle.certificate.specs.Refutation.{data_of}
use Rattle.certificate.proofs.RefutationText.{refutation-no_float, refutation_of-text, text-value}
use Rattle.certificate.proofs.refutation_writing.write_refutation.Goals as goal

written : (c : goal.Joined-branch-2) →
    IfOk c.to_string.result (λ text. string_bytes text ≡ refutation_text (data_of c.args.refutation.now))
written c =
    let refutation = data_of c.args.refutation.now in
    let value = view c.in_ok-value_of.field-0 in
    let is = c.in_ok-value_of.ensures.value in
    IfOk-weaker c.to_string.result (λ text. has_float value ≡ false → string_bytes text ≡ compact_text value)
    (λ text. string_bytes text ≡ refutation_text refutation)
    (λ text same. same (ap has_float is ∙ refutation-no_float refutation) ∙ ap compact_text is ∙ text-value refutation)
    c.to_string.ensures.text

pub returns : goal.returns
returns c =
    let refutation = data_of c.args.refutation.now in
    record {
      text = written c;
      reads_back = IfOk-weaker c.to_string.result (λ text. string_bytes text ≡ refutation_text refutation)
          (λ text. refutation_of (string_bytes text) ≡ Ok refutation)
          (λ text is. ap refutation_of is ∙ refutation_of-text refutation c.in_ok-value_of.ensures.held) (written c);
    }
