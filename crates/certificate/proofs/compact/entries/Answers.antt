use Rattle.certificate.proofs.Common.{◌+◌, sym, subst, All-push, All, NamesSamples, entry_text}
use Rattle.certificate.proofs.CommaList.{IsReadUpTo, joined_read}
use Rattle.certificate.proofs.compact.entries.Goals as goal

pub loop-index-preserved : goal.loop-index-preserved
loop-index-preserved c =
    let before = c.loop-index.invariant in
    let entry = c.in_ok-next_entry.field-0 in
    let rest = c.next_entry.new.scanner in
    let more = sym c.push.ensures.items in
    record {
      read = subst (λ xs. IsReadUpTo entry_text c.args.scanner.now rest xs (c.loop-index.index + 1)) more
          (joined_read entry_text entry rest before.read c.in_ok-next_entry.ensures.text);
      named = subst (λ xs. All NamesSamples xs) more
          (All-push NamesSamples c.loop-index.entries.items entry before.named c.in_ok-next_entry.ensures.named);
    }
