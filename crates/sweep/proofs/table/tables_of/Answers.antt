use Rattle.sweep.proofs.Common.{◌≡◌, [], ◌∷◌, ◌++◌, ap, ◌∙◌, sym, true, arith, rules, common_steps, All-push, IsTableOf, has_sample}
use Rattle.sweep.proofs.TableList.{none_has, table_has, servers_without, servers_more}
use Rattle.sweep.proofs.table.tables_of.Goals as goal
use Rattle.sweep.proofs.table.tables_of.Goals.{in-Some+in_ok-push, in_default}

pub table_of-requires-clause-servers : goal.table_of-requires-clause-servers
table_of-requires-clause-servers g c = c.as_slice.ensures.value ∙ c.in_ok-servers.ensures

pub loop-server-preserved : goal.loop-server-preserved
loop-server-preserved g c =
    let samples = g.S.SampleSource.samples c.args.samples in
    let server = c.loop-server.server in
    let old = c.loop-server.tables.items in
    elim c.match-table.branch [
      | in-Some+in_ok-push w ↦
          let is = rw w.in-Some.is at c.in_ok-table.ensures.table in
          let of = rw w.in-Some.is at c.in_ok-table.ensures.of_server in
          let pushed : w.push.new.self.items ≡ old ++ w.in-Some.table ∷ [] = search rules in
          let has : has_sample samples server ≡ true =
          ap (has_sample samples) (sym of) ∙ table_has samples c.args.drift_ppb w.in-Some.table is in
          record {
            few = grind (arith, common_steps);
            each = rw (w.tables-is, pushed)
                (All-push (IsTableOf samples c.args.drift_ppb) old w.in-Some.table c.loop-server.invariant.each is);
            servers = rw (w.tables-is, pushed)
                (servers_more samples server old c.loop-server.invariant.servers w.in-Some.table of has);
          }
      | in_default w ↦
          let none = c.in_ok-table.ensures.none.0 (search (w.in_default.is)) in
          record {
            few = grind (arith, common_steps);
            each = rw w.tables-is c.loop-server.invariant.each;
            servers = rw w.tables-is
                (servers_without samples server old c.loop-server.invariant.servers (none_has samples server none));
          }
    ]

pub returns-clause-are : goal.returns-clause-are
returns-clause-are g c = grind arith
