use Rattle.std.proofs.Common.{◌↔◌, ◌+◌, ℕ, List, arith, map, subst, sym, take}
use Rattle.cover_checker.specs.Conflict.{HoldsCase}
use Rattle.cover_certificate.specs.CoverCertificate.{case_data}
use Rattle.cover_checker.specs.CoverSearch.{HoldsOne}
use Rattle.cover_checker.proofs.CaseSets.{one_more}
use Rattle.cover_checker.proofs.case.sets_of.Goals as goal

pub loop-case-preserved : goal.loop-case-preserved
loop-case-preserved c = record {
  holds = λ is_in.
      subst
      (λ (l : List ℕ). HoldsOne l is_in
      ↔ HoldsCase (map case_data (take (c.loop-case.case-index + 1) c.args.cases.now)) is_in)
      (sym c.push.ensures.items)
      (one_more c.loop-case.sets.items c.set_of.result c.args.cases.now c.loop-case.case-index c.case-item.result is_in
      c.loop-case-test.true c.case-item.is (c.loop-case.invariant.holds is_in) c.set_of.ensures);
  fits = omega arith;
}
