-- What the entries of a piece say, in a case that leaves some groups out.
use Rattle.std.specs.Prelude.{ℕ, ◌==◌, Bool, not, if◌then◌else◌, List, [], ◌∷◌, ◌++◌, Option, None, Some, Result, Ok, Err, slice_get}
use Rattle.cover_checker.specs.Common.{list_any, BadSample, ClaimData, Exchange, MixedServers, Part, RepeatedServer, Stretch, group_of}
use Rattle.cover_checker.specs.Interval.{part_of}
use Rattle.cover_checker.specs.declared.verdict.PieceWhy.{PieceWhy}
use Rattle.cover_checker.specs.declared.verdict.PieceWhy.TheVariants.{LeftOut, Of}

-- what an entry says that names these two exchanges, after others of its piece
abbrev pub part_from : ClaimData → (ℕ → Bool) → Stretch → List Part → Option Exchange →
    Option Exchange → Result Part PieceWhy
part_from claim out stretch earlier None high = Err (Of BadSample)
part_from claim out stretch earlier (Some x) None = Err (Of BadSample)
part_from claim out stretch earlier (Some x) (Some y) =
    if not (x.server == y.server) then Err (Of MixedServers) else
    if list_any (λ part. part.server == x.server) earlier then Err (Of RepeatedServer) else
    if out (group_of claim x) then Err LeftOut else
    Ok (part_of claim stretch x y)

-- what follows if an entry isn't refused
abbrev pub unless_refused : Result Part PieceWhy → (Part → Result (List Part) PieceWhy) →
    Result (List Part) PieceWhy
unless_refused (Err why) next = Err why
unless_refused (Ok part) next = next part

-- what the entries say, in their order, after others that said these; or the first reason to refuse
-- one
abbrev pub parts_after : ClaimData → List Exchange → (ℕ → Bool) → Stretch → List Part →
    List (ℕ × ℕ) → Result (List Part) PieceWhy
parts_after claim xs out stretch earlier [] = Ok earlier
parts_after claim xs out stretch earlier (entry ∷ entries) =
    unless_refused
    (part_from claim out stretch earlier (slice_get xs entry.0) (slice_get xs entry.1))
    (λ part. parts_after claim xs out stretch (earlier ++ part ∷ []) entries)
