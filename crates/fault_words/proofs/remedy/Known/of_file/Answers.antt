use Rattle.std.proofs.Common.{◌≡◌, inl, subst, sym}
use Rattle.fault_words.proofs.Common.{IsQuiet}
use Rattle.fault_words.proofs.Quiet.{visible_is_quiet}
use Rattle.std.specs.Prelude.{List, [], ℕ}
use Rattle.fault_words.proofs.remedy.Known.of_file.Goals as goal

nothing : (bytes : List ℕ) → bytes ≡ [] → IsQuiet bytes
nothing bytes is = subst IsQuiet (sym is) (visible_is_quiet [] tt)

pub returns : goal.returns
returns c = record {
  file = c.in_ok-shell_word.ensures.quiet;
  place = nothing _ c.new.ensures.bytes;
  evidence = nothing _ c.new-2.ensures.bytes;
  inputs = nothing _ c.new-3.ensures.bytes;
  sums = nothing _ c.new-4.ensures.bytes;
  names = record {
    file = (c.args.name.now, c.in_ok-shell_word.ensures.reads);
    evidence = inl c.new-2.ensures.bytes;
    inputs = inl c.new-3.ensures.bytes;
    sums = inl c.new-4.ensures.bytes;
  };
}
