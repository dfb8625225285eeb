use Rattle.audit.proofs.Common.{◌∙◌, sym, publishes_over}
use Rattle.audit.proofs.sample_output.publish_samples.Goals as goal

pub returns : goal.returns
returns g c =
    let same = c.close.ensures.same_sink ∙ (c.put_samples-ran.ensures.same_sink ∙ c.new-output.ensures.same_sink) in
    let back = c.out-1.given.1 (sym same) ∙ c.drop-output.ensures in
    rw back (publishes_over _ _ _ c.new-output.ensures.state c.put_samples-ran.ensures.puts c.close.ensures.closes)
