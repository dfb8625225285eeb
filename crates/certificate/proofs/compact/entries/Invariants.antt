use Rattle.certificate.proofs.Common.{All, NamesSamples, entry_text}
use Rattle.certificate.proofs.CommaList.{IsReadUpTo}
use Rattle.certificate.proofs.compact.entries.Given as goal

abbrev pub invariant-loop-index : goal.invariant-loop-index
invariant-loop-index l = record {
  read : IsReadUpTo entry_text l.fn.scanner l.scanner l.entries.items l.index;
  named : All NamesSamples l.entries.items;
}
