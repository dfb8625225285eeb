use Rattle.audit.proofs.Common.{◌∙◌, map, sym, ap, Format, frame_of}
use Rattle.audit.proofs.laws.captures_say_one_list_of_frames.Goals as goal

pub returns : goal.returns
returns c bytes order other_order unit other_unit frames others capture other =
    let of = c.frames_are_records.ensures bytes order unit frames capture in
    let other_of = c.frames_are_records.ensures bytes other_order other_unit others other in
    let one = c.one_reading.ensures bytes (record { order = order; unit = unit })
    (record { order = other_order; unit = other_unit }) of.0 other_of.0 of.1 other_of.1 in (
      ap (λ (f : Format). f.order) one.0,
      ap (λ (f : Format). f.unit) one.0,
      sym of.2 ∙ ap (map frame_of) one.1 ∙ other_of.2,
    )
