use Rattle.checker.proofs.Common.{◌≡◌, length, arith, data_of}
use Rattle.checker.proofs.refutation.may_be_false.Goals as goal

pub returns : goal.returns
returns c =
    let claim = data_of c.args.claim.now in
    let count : c.len.result ≡ length claim.servers = omega arith in
    rw (
      c.are_listed.ensures,
      count,
      c.are_different.ensures,
      c.false_group_count.ensures.exact,
      c.as_slice.ensures.value,
      c.from.ensures,
    ) at c.all_hold.ensures
