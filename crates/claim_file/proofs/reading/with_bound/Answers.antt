use Rattle.claim_file.proofs.Common.{rules, subst, IsLawful, data_of, with_bound}
use Rattle.claim_file.proofs.Lawful.{with_bound_lawful}
use Rattle.claim_file.proofs.reading.with_bound.Goals as goal

pub invariant_of-result : goal.invariant_of-result
invariant_of-result c =
    let lawful : IsLawful (data_of c.args.claim.now) = c.args.claim.now.lawful in
    record {
      lawful = subst IsLawful (search rules)
          (with_bound_lawful (data_of c.args.claim.now) c.args.bound_ns lawful c.requires.in_range);
    }
