use Rattle.std.proofs.Common.{◌≡◌, ◌∙◌, Some, None, ap, refl, sym}
use Rattle.std.specs.Prelude.{option_map}
use Rattle.std.proofs.lemmas.Result.{IfOk-weaker}
use Rattle.command_line.specs.Words as spec
use Rattle.command_line.proofs.misuse.read_once.Goals as goal

pub returns-in-Some : goal.returns-in-Some
returns-in-Some c =
    let misused : spec.misuse_in c.args.invocation ≡ Some c.in-Some.text.now =
    sym c.misuse_in.ensures ∙ ap (option_map (λ text. text.now)) c.in-Some.is in
    IfOk-weaker c.refusal.result _ _ (λ read refused. record { misused = rw misused refused; lawful = λ none. cc })
    c.refusal.ensures

pub returns-in-None : goal.returns-in-None
returns-in-None c =
    let lawful : spec.misuse_in c.args.invocation ≡ None =
    sym c.misuse_in.ensures ∙ ap (option_map (λ text. text.now)) c.in-None.is in
    record { misused = rw lawful tt; lawful = λ none. refl }
