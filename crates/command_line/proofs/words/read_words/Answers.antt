use Rattle.std.proofs.Common.{ap, map}
use Rattle.std.specs.Prelude.{string_bytes}
use Rattle.std.proofs.lemmas.Result.{IfOk-weaker}
use Rattle.command_line.proofs.Meaning.{means_called, means_told}
use Rattle.command_line.proofs.words.read_words.Goals as goal

pub returns-in_ok-invocation_of-in-Ok : goal.returns-in_ok-invocation_of-in-Ok
returns-in_ok-invocation_of-in-Ok c =
    IfOk-weaker c.read_once.result _ _
    (λ read once. means_called _ c.args.words.now _ c.in_ok-ntpaudit.ensures.is
    (ap (map string_bytes) c.counted-words.ensures) _ read c.in-Ok.ensures.kinds c.in-Ok.ensures.matches
    c.in_ok-invocation_of-in-Ok.ensures.called once) c.read_once.ensures

pub returns-in-Err : goal.returns-in-Err
returns-in-Err c =
    IfOk-weaker c.explained.result _ _
    (λ read told. means_told _ c.args.words.now _ c.in_ok-ntpaudit.ensures.is
    (ap (map string_bytes) c.counted-words.ensures) read c.in-Err.ensures.kinds told) c.explained.ensures
