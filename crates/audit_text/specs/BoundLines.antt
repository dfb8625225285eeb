-- What is said of bounds, for a person: the one that is claimed, the least that a certificate
-- carries, and how much wider that is.
use Rattle.std.specs.Prelude.{ℕ, ◌-◌, List, [], ◌∷◌, codes, Option, Some, None}
use Rattle.audit_text.specs.Common.{line_of, Word, Nanoseconds, Human}

-- the bound that is claimed, in nanoseconds
unfoldable pub claimed_line : ℕ → List ℕ
claimed_line bound_ns = line_of Human (Word (codes "bound") ∷ Nanoseconds bound_ns ∷ [])

-- the least bound that a certificate carries, or that none carries any
unfoldable pub carried_line : Option ℕ → List ℕ
carried_line (Some least_ns) = line_of Human (Word (codes "least") ∷ Nanoseconds least_ns ∷ [])
carried_line None = line_of Human (Word (codes "least none") ∷ [])

-- by how much it is wider than the claimed one
unfoldable pub wider_line : ℕ → Option ℕ → List ℕ
wider_line bound_ns (Some least_ns) =
    line_of Human (Word (codes "wider by") ∷ Nanoseconds (least_ns - bound_ns) ∷ [])
wider_line bound_ns None = []
