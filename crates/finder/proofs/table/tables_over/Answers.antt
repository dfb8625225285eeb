use Rattle.finder.proofs.Common.{ℕ, ℤ, ◌≤◌, length, ap, subst, le_trans, ◌∙◌, arith, rules, ◌≡◌, [], ◌∷◌, ◌++◌, slice_get, filter_map, range_with_len, common_steps, to_z-of_z, All-push, w128, data_of, best_over, stretch_over}
use Rattle.finder.proofs.Claim.{server_fits}
use Rattle.span_cover.proofs.BestSample.{best_of-none}
use Rattle.finder.proofs.List.{without}
use Rattle.finder.proofs.TablePieces.{table_more}
use Rattle.finder.proofs.table.tables_over.Goals as goal
use Rattle.finder.proofs.table.tables_over.Goals.{in-Some+in_ok-push, in_default}

pub overflow_cast-server : goal.overflow_cast-server
overflow_cast-server g c =
    server_fits (data_of c.args.claim.now) c.args.claim.now.lawful c.loop-server.server c.len-server-end.result
    c.loop-server-test.true (c.len-server-end.ensures ∙ c.args.claim.now.servers.ok.0)

pub best_of_pieces-requires-clause-servers : goal.best_of_pieces-requires-clause-servers
best_of_pieces-requires-clause-servers g c = c.as_slice.ensures.value ∙ c.in_ok-servers.ensures

pub best_of_pieces-requires-clause-pieces : goal.best_of_pieces-requires-clause-pieces
best_of_pieces-requires-clause-pieces g c = rw (to_z-of_z w128 c.args.first c.ranges.first) c.requires.pieces

pub loop-server-preserved : goal.loop-server-preserved
loop-server-preserved g c =
    let claim = c.args.claim.now in
    let server = c.loop-server.server in
    let over : ℤ → ℤ → ℕ → _ = λ (p q : ℤ).
    best_over (g.S.SampleSource.samples c.args.samples) (data_of claim) (stretch_over p q) in
    elim c.match-table.branch [
      | in-Some+in_ok-push w ↦
          let are = rw w.in-Some.is at c.in_ok-table.ensures.best in
          let old = c.loop-server.tables.items in
          let pushed : w.push.new.self.items ≡ old ++ w.in-Some.table ∷ [] = search rules in
          record {
            few = grind (arith, common_steps);
            long = rw (w.tables-is, pushed)
                (All-push (λ t. length t.items ≡ length c.args.ends.now) old w.in-Some.table
                c.loop-server.invariant.long are.as_many);
            best = λ k p q is. rw (w.tables-is, pushed)
                (table_more (λ t. slice_get t.items k) (over p q) server old w.in-Some.table
                (c.loop-server.invariant.best k p q is) (are.best k p q is));
          }
      | in_default w ↦
          let none = c.in_ok-table.ensures.none.0 (search (w.in_default.is)) in
          record {
            few = grind (arith, common_steps);
            long = rw w.tables-is c.loop-server.invariant.long;
            best = λ k p q is. rw w.tables-is
                (without (over p q) server _ (c.loop-server.invariant.best k p q is)
                (best_of-none (g.S.SampleSource.samples c.args.samples)
                server p q claim.drift_ppb none));
          }
    ]

pub returns-clause-few : goal.returns-clause-few
returns-clause-few g c =
    subst (λ (n : ℕ). length c.loop-server.tables.items ≤ n)
    (c.len-server-end.ensures ∙ c.args.claim.now.servers.ok.0)
    (le_trans c.loop-server.invariant.few c.loop-server.auto.server-end)

pub returns-clause-best : goal.returns-clause-best
returns-clause-best g c k p q is =
    let claim = data_of c.args.claim.now in
    let over = best_over (g.S.SampleSource.samples c.args.samples) claim (stretch_over p q) in
    let all : c.loop-server.server ≡ length claim.servers = grind (arith, common_steps) in
    c.loop-server.invariant.best k p q (rw (to_z-of_z w128 c.args.first c.ranges.first) is)
    ∙ ap (λ (n : ℕ). filter_map over (range_with_len 0 n)) all
