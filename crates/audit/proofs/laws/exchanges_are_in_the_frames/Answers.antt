use Rattle.audit.proofs.ExchangeRecords.{in_place, all_exchanges}
use Rattle.audit.proofs.laws.exchanges_are_in_the_frames.Goals as goal

pub returns : goal.returns
returns c bytes format records claim all capture apart =
    all_exchanges c.layers_say_what_frames_hold.ensures claim apart format.unit records
    (in_place bytes format records all capture) (c.exchanges_are_those_of_the_pairs.ensures.sound claim records)
