use Rattle.std.proofs.Common.{◌≡◌, ◌<◌, ◌∷◌, [], ◌∙◌, ap, arith, length, slice_get, subst, sym, Some}
use Rattle.std.proofs.lemmas.List.{length-append}
use Rattle.std.proofs.lemmas.List.Elements.{All-push}
use Rattle.std.proofs.lemmas.Option.{slice_get-get_or}
use Rattle.cover_finder.specs.Common.{Part, claim_data, holds}
use Rattle.cover_finder.specs.Table.{IsTableOf}
use Rattle.cover_finder.specs.declared.table.Table.{Table}
use Rattle.cover_finder.proofs.Tables.{all_said, said_more, said_passed}
use Rattle.cover_finder.proofs.table.said_over.Goals as goal
use Rattle.cover_finder.proofs.table.said_over.Goals.{in-Some, in-None}

pub loop-table-preserved : goal.loop-table-preserved
loop-table-preserved c =
    let claim = claim_data c.args.claim.now in
    let out = holds c.args.out in
    let stretch = c.args.stretch in
    let tables = c.args.tables.now in
    let n = c.loop-table.table-index in
    let parts = c.loop-table.said.parts.items in
    let entries = c.loop-table.said.entries.items in
    let so_far = c.loop-table.invariant in
    let table = c.table-item.result in
    let within : n < length tables = c.loop-table-test.true in
    let here : slice_get tables n ≡ Some table =
    slice_get-get_or tables n table within ∙ ap Some (sym c.table-item.is) in
    elim c.match-said_without.branch [
      | in-Some w ↦
          let one = w.in-Some.one in
          let below : one.0.server < length claim.groups = omega (
            arith,
            w.in-Some.ensures.server,
            ap (λ (t : Table). t.server) c.table-item.is,
            c.requires.tables.listed n table within,
          ) in
          record {
            few = rw (w.said-is, w.push.ensures.items) (omega (arith, so_far.few, length-append parts (one.0 ∷ [])));
            same = rw (w.said-is, w.push.ensures.items, w.push-in-Some.ensures.items)
                (omega (arith, so_far.same, length-append parts (one.0 ∷ []), length-append entries (one.1 ∷ [])));
            listed = rw (w.said-is, w.push.ensures.items)
                (All-push (λ (part : Part). part.server < length claim.groups) parts one.0 so_far.listed below);
            so_far = λ xs are.
                let said = w.in-Some.ensures.said xs
                (subst (IsTableOf claim xs) (sym c.table-item.is) (are.each n table within)) in
                rw (w.said-is, w.push.ensures.items, w.push-in-Some.ensures.items)
                (said_more claim xs out stretch tables are n entries parts so_far.same (so_far.so_far xs are) table here
                one.1 one.0 said.0 said.1 w.in-Some.ensures.server);
          }
      | in-None w ↦ record {
        few = rw w.said-is (omega (arith, so_far.few));
        same = rw w.said-is so_far.same;
        listed = rw w.said-is so_far.listed;
        so_far = λ xs are. rw w.said-is
            (said_passed claim xs out stretch tables are n entries parts so_far.same (so_far.so_far xs are) table here
            (w.in-None.ensures.said xs
            (subst (IsTableOf claim xs) (sym c.table-item.is) (are.each n table within))));
      }
    ]

pub returns-clause-whole : goal.returns-clause-whole
returns-clause-whole c xs are =
    let so_far = c.loop-table.invariant in
    all_said (claim_data c.args.claim.now) xs (holds c.args.out) c.args.stretch c.args.tables.now are
    c.loop-table.table-index c.loop-table.said.entries.items c.loop-table.said.parts.items c.loop-table-test.false
    so_far.same (so_far.so_far xs are) so_far.listed

pub returns-clause-in_step : goal.returns-clause-in_step
returns-clause-in_step c xs are = (c.loop-table.invariant.so_far xs are).in_step
