-- What the fields of a claim are called, by their codes.
use Rattle.std.specs.Prelude.{List, ℕ, [], codes, nat_eq, if◌then◌else◌}

abbrev pub field_name : ℕ → List ℕ
field_name code =
    if nat_eq code 1 then codes "client" else
    if nat_eq code 2 then codes "servers" else
    if nat_eq code 3 then codes "false_max" else
    if nat_eq code 4 then codes "from" else
    if nat_eq code 5 then codes "to" else
    if nat_eq code 6 then codes "bound_ns" else
    if nat_eq code 7 then codes "drift_ppb" else
    if nat_eq code 8 then codes "reading_ns" else
    if nat_eq code 9 then codes "groups" else
    []
