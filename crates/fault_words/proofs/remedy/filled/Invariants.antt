use Rattle.fault_words.proofs.Common.{◌≡◌, string_bytes, flat_map, filling, known_data}
use Rattle.fault_words.proofs.remedy.filled.Given as goal

abbrev pub invariant-loop-c : goal.invariant-loop-c
invariant-loop-c l = string_bytes l.out ≡ flat_map (filling (known_data l.fn.known)) l.yielded
