-- The text of `find` if no certificate is found.
use Rattle.std.specs.Prelude.{ℕ, List, [], ◌∷◌, codes}
use Rattle.audit_text.specs.Common.{line_of, Word, Named, Style, Hull}
use Rattle.audit_text.specs.Table.{hull_high, hull_low}

-- the number of the piece that fails, and its hull
unfoldable pub nothing_text : Style → ℕ → Hull → List ℕ
nothing_text style piece hull = line_of style (
    Word (codes "nothing") ∷ Named (codes "piece") piece ∷
    Word (codes "hull") ∷ hull_low hull ∷ hull_high hull ∷ [])
