-- What stands at a path of files in memory, and what was put there.
use Rattle.std.specs.Prelude.{ℕ, List, [], ◌∷◌, Option, Some, None, if◌then◌else◌, string_bytes}
use Rattle.std.specs.Str.{bytes_eq}
use Rattle.program.specs.Files.{Standing, holds, missing}
use Rattle.program.specs.declared.table.Place.{Place}
use Rattle.program.specs.declared.table.Put.{Put}

-- the bytes of the first with this path
abbrev pub standing_in : List ℕ → List Place → Standing
standing_in path [] = missing
standing_in path (place ∷ places) =
    if bytes_eq place.path.now path then holds place.bytes.now else standing_in path places

-- the bytes of the last that was put, if it has this path
abbrev pub put_in : List ℕ → Option Put → Standing
put_in path None = missing
put_in path (Some put) =
    if bytes_eq (string_bytes put.path) path then holds put.held.held.bytes.items else missing
