use Rattle.certificate.proofs.Common.{Some, sym, ◌∙◌, Decides-eqb, strip_prefix_is}
use Rattle.certificate.proofs.scanner.Scanner.text.Goals as goal

pub returns : goal.returns
returns c =
    sym c.self.view_is
    ∙ strip_prefix_is Decides-eqb c.self.inside.rest.now c.args.text.now (Some c.in_ok-self-inside.field-0)
    c.in_ok-self-inside.ensures.cases
