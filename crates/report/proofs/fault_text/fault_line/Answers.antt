use Rattle.report.proofs.Common.{◌≡◌, ◌∙◌, subst, sym, rules, append-nil, IsUtf8, fault_text}
use Rattle.report.proofs.FaultText.{fault_is_utf8}
use Rattle.report.proofs.fault_text.fault_line.Goals as goal

pub unwrap-text-requires : goal.unwrap-text-requires
unwrap-text-requires c =
    let bytes : c.as_bytes.result.now ≡ fault_text c.args.fault.now =
    c.as_bytes.ensures.text ∙ c.put_fault.ensures ∙ rw c.new-line.ensures (append-nil (fault_text c.args.fault.now)) in
    let is = subst IsUtf8 (sym bytes) (fault_is_utf8 c.args.fault.now) in search (rules, is)
