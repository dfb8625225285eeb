use Rattle.cover_certificate.proofs.Common.{◌<◌, length, arith, ◌∙◌, append_assoc, common_steps, decimal}
use Rattle.certificate.proofs.CommaList.{joined_more}
use Rattle.cover_certificate.proofs.writing.push_groups.Goals as goal

pub loop-index-preserved : goal.loop-index-preserved
loop-index-preserved c =
    let within : c.loop-index.index < length c.args.groups.now = omega arith in
    let more = joined_more decimal c.args.groups.now c.loop-index.index 0 within in
    record {
      written = c.in_ok-extend_from_slice.ensures.items
          ∙ rw (c.as_bytes.ensures.text, c.write_group.ensures.text, c.loop-index.invariant.written, more)
          (simp append_assoc);
      named = grind (arith, common_steps);
    }
