use Rattle.audit.proofs.ExchangeRecords.{in_place}
use Rattle.audit.proofs.Completeness.{collected}
use Rattle.audit.proofs.laws.exchanges_in_the_frames_are_collected.Goals as goal

pub returns : goal.returns
returns c bytes format records claim all capture apart = λ x is.
    collected c.layers_say_what_frames_hold.ensures c.unfolded_is_one_number.ensures claim apart format.unit records
    (in_place bytes format records all capture) x is (c.exchanges_are_those_of_the_pairs.ensures.complete claim records)
