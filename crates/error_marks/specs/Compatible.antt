-- When low marks and high marks are all compatible.
use Rattle.std.specs.Prelude.{ℕ, List}
use Rattle.std.specs.List.{All}
use Rattle.error_marks.specs.Mark.{AreCompatible}
use Rattle.error_marks.specs.declared.mark.Mark.{Mark}

-- each low mark is compatible with each high mark
abbrev pub AllCompatible : ℕ → List Mark → List Mark → Type 0
AllCompatible ppb lows highs = All (λ low. All (λ high. AreCompatible ppb low high) highs) lows
