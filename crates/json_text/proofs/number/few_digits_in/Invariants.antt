use Rattle.json_text.proofs.Digits.{IsLeft}
use Rattle.json_text.proofs.number.few_digits_in.Given as goal

abbrev pub invariant-loop-byte : goal.invariant-loop-byte
invariant-loop-byte l = IsLeft l.bytes l.byte-index l.number
