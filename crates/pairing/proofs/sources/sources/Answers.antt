use Rattle.pairing.proofs.Common.{false, rules, get_or-replicate}
use Rattle.pairing.proofs.sources.sources.Goals as goal

pub loop-held-init : goal.loop-held-init
loop-held-init c = record {
  whole = search rules;
  so_far = λ server below. get_or-replicate 256 server false false below;
}
