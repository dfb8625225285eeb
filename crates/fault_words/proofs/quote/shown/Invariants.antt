use Rattle.fault_words.proofs.Common.{◌≡◌, string_bytes, flat_map, shown_char}
use Rattle.fault_words.proofs.quote.shown.Given as goal

abbrev pub invariant-loop-c : goal.invariant-loop-c
invariant-loop-c l = string_bytes l.out ≡ flat_map shown_char l.yielded
