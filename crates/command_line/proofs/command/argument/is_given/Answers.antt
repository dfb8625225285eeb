use Rattle.std.proofs.Common.{◌∙◌}
use Rattle.clap.specs.Words.{found_of}
use Rattle.clap.proofs.WalkLemmas.{one_text-rows}
use Rattle.command_line.proofs.command.argument.is_given.Goals as goal

pub returns : goal.returns
returns c =
    let same = one_text-rows (found_of c.args.words.now) c.args.name.now in
    record {
      yes = λ is. c.get_flag.ensures.value (same ∙ is);
      no = λ is. c.get_flag.ensures.other (same ∙ is);
      none = λ is. c.get_flag.ensures.none (same ∙ is);
    }
