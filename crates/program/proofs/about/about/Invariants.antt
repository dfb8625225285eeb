use Rattle.std.proofs.Common.{◌≡◌, string_bytes, take, map}
use Rattle.std.specs.List.{flat_map}
use Rattle.std.specs.Option.{option_map}
use Rattle.program.specs.About.{data_of, line_of}
use Rattle.program.proofs.about.about.Given as goal

abbrev pub invariant-loop-called : goal.invariant-loop-called
invariant-loop-called l = string_bytes l.lines ≡ flat_map
    (line_of (option_map (λ text. text.items) l.fn.sums)) (map data_of (take l.called-index l.inputs))
