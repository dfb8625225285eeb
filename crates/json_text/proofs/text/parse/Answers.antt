use Rattle.std.proofs.Common.{true≢false, sym, ◌∙◌}
use Rattle.json_text.proofs.Texts.{parsed_some, parsed_none}
use Rattle.json_text.proofs.text.parse.Goals as goal

pub returns-in-Ok : goal.returns-in-Ok
returns-in-Ok c = record {
  exact = parsed_some _ _ c.in-Ok.ensures.ok.0 c.in-Ok.ensures.ok.1;
}

pub returns-else-is_memory : goal.returns-else-is_memory
returns-else-is_memory c = record {
  exact = parsed_none _
      (c.in-Err.ensures.err (λ memory. true≢false (sym (c.is_memory.ensures.1 memory) ∙ c.if-is_memory.false)));
}
