-- The line of the least bound that a certificate carries.
use Rattle.std.specs.Prelude.{ℕ, List, [], ◌∷◌, codes}
use Rattle.envelope_text.specs.Common.{line_of, Named, Nanoseconds, Style}
use Rattle.audit_text.specs.Table.{word_for}
use Rattle.envelope_text.specs.declared.least_line.LeastLine.{LeastLine}
use Rattle.envelope_text.specs.declared.least_line.LeastLine.TheVariants.{NotAsked, NoneHolds, Holds}

-- no line if it isn't asked for; the bound in nanoseconds, and the piece that holds the tick at
-- which the search stops with a nanosecond less; or that there is none
unfoldable pub least_line : Style → LeastLine → List ℕ
least_line style NotAsked = []
least_line style NoneHolds =
    line_of style (word_for style (codes "least_ns none") (codes "least none") ∷ [])
least_line style (Holds n piece) = line_of style (
    word_for style (codes "least_ns") (codes "least") ∷ Nanoseconds n ∷
    Named (codes "piece") piece ∷ [])
