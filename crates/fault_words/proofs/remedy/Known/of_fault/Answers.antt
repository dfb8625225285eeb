use Rattle.std.proofs.Common.{◌≡◌, ◌∙◌, ◌⊎◌, ◌++◌, List, ℕ, ap, codes, inl, inr, subst, sym}
use Rattle.std.specs.Prelude.{string_bytes}
use Rattle.fault_words.specs.Quote.{IsQuiet}
use Rattle.fault_words.specs.Shell.{AreThree, AreTwo, IsName}
use Rattle.fault_words.proofs.remedy.Known.of_fault.Goals as goal
use Rattle.fault_words.proofs.remedy.Known.of_fault.Goals.{then-is_empty+in_ok-inputs, else-is_empty+in_ok-inputs-2}

two : (text a b first second : List ℕ) → text ≡ a ++ codes " " ++ b → a ≡ first → b ≡ second → IsName first →
    IsName second → AreTwo text
two text a b first second is p q one other = (first, second, cc, one, other)

three : (text a b both third : List ℕ) → text ≡ a ++ codes " " ++ b → a ≡ both → b ≡ third → AreTwo both →
    IsName third → AreThree text
three text a b both third is p q one other = (both, third, cc, one, other)

same_quiet : (a b : List ℕ) → a ≡ b → IsQuiet b → IsQuiet a
same_quiet a b is quiet = subst IsQuiet (sym is) quiet

pub returns : goal.returns
returns c =
    let names = c.args.names.now in
    let evidence : List ℕ = string_bytes c.in_ok-evidence.evidence in
    let inputs : List ℕ = string_bytes c.if-is_empty.inputs in
    let quiet : IsQuiet evidence = c.in_ok-evidence.ensures.quiet
    (same_quiet _ _ c.as_str.ensures.value c.in_ok-claim.ensures.quiet)
    (same_quiet _ _ c.as_str-2.ensures.value c.in_ok-capture.ensures.quiet) in
    let both : AreTwo evidence = two evidence _ _ _ _ c.in_ok-evidence.ensures.words c.as_str.ensures.value
    c.as_str-2.ensures.value (names.claim.now, c.in_ok-claim.ensures.reads)
    (names.capture.now, c.in_ok-capture.ensures.reads) in
    let all : IsQuiet inputs × (AreTwo inputs ⊎ AreThree inputs) = elim c.if-is_empty.branch [
      | then-is_empty+in_ok-inputs w ↦
          let is : inputs ≡ evidence = ap string_bytes w.inputs-is ∙ w.in_ok-inputs.ensures.cases in
          (same_quiet inputs evidence is quiet, inl (subst AreTwo (sym is) both))
      | else-is_empty+in_ok-inputs-2 w ↦
          let is = ap string_bytes w.inputs-is in (
            same_quiet inputs _ is (w.in_ok-inputs-2.ensures.quiet
                (same_quiet _ _ w.as_str-else-is_empty.ensures.value quiet)
                (same_quiet _ _ w.as_str-else-is_empty-2.ensures.value c.in_ok-second.ensures.quiet)),
            inr (three inputs _ _ evidence _ (is ∙ w.in_ok-inputs-2.ensures.words) w.as_str-else-is_empty.ensures.value
                w.as_str-else-is_empty-2.ensures.value both (names.second.now, c.in_ok-second.ensures.reads)),
          )
    ] in
    record {
      file = c.in_ok-shell_word.ensures.quiet;
      place = c.in_ok-place_of.ensures;
      evidence = quiet;
      inputs = all.0;
      sums = c.in_ok-shell_word-2.ensures.quiet;
      names = record {
        file = (c.match-input_of.name.now, c.in_ok-shell_word.ensures.reads);
        evidence = inr both;
        inputs = inr all.1;
        sums = inr (names.sums.now, c.in_ok-shell_word-2.ensures.reads);
      };
    }
