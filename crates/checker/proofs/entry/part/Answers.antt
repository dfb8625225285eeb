use Rattle.std.proofs.Common.{◌∙◌, sym, ap, Ok}
use Rattle.checker.proofs.Part.{accepted, mixed, repeated}
use Rattle.checker.proofs.entry.part.Goals as goal

pub returns : goal.returns
returns g c =
    ap Ok c.part_of.ensures
    ∙ sym (accepted c.args.stretch c.args.drift_ppb c.args.earlier.now c.in-Some.low c.in-Some-sample_named.high _ _
    (sym c.in-Some.ensures) (sym c.in-Some-sample_named.ensures) c.if-server-high.false
    (sym c.names_server.ensures ∙ c.if-names_server.false))

pub returns-then-server-high : goal.returns-then-server-high
returns-then-server-high g c =
    mixed c.args.stretch c.args.drift_ppb c.args.earlier.now c.in-Some.low c.in-Some-sample_named.high _ _
    (sym c.in-Some.ensures) (sym c.in-Some-sample_named.ensures) c.if-server-high.true

pub returns-then-names_server : goal.returns-then-names_server
returns-then-names_server g c =
    repeated c.args.stretch c.args.drift_ppb c.args.earlier.now c.in-Some.low c.in-Some-sample_named.high _ _
    (sym c.in-Some.ensures) (sym c.in-Some-sample_named.ensures) c.if-server-high.false
    (sym c.names_server.ensures ∙ c.if-names_server.true)
