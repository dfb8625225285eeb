use Rattle.std.proofs.Common.{length}
use Rattle.certificate.proofs.Digits.{IsRead}
use Rattle.certificate.proofs.scanner.Scanner.number.Given as goal

abbrev pub invariant-loop-digit : goal.invariant-loop-digit
invariant-loop-digit l = IsRead l.fn.self l.self l.number

abbrev pub decreases-loop-digit : goal.decreases-loop-digit
decreases-loop-digit l = length l.self
