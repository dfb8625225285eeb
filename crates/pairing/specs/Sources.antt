-- Which servers the exchanges of a capture are with, and which clock those say they follow.
use Rattle.std.specs.Prelude.{ℕ, ◌==◌, Bool, List, [], ◌∷◌, count_by, Option, Some, None, if◌then◌else◌}
use Rattle.pairing.specs.Common.{list_all, list_any, bytes_eq, servers_of}
use Rattle.pairing.specs.declared.exchange.Exchange.{Exchange}

-- whether an exchange is with the server of this number
abbrev pub is_source : List Exchange → ℕ → Bool
is_source xs server = list_any (λ x. x.server == server) xs

-- how many of the first `servers` servers have an exchange
abbrev pub source_count : List Exchange → ℕ → ℕ
source_count xs servers = count_by (is_source xs) (servers_of servers)

-- the reference identifier that all exchanges name, if there is one
abbrev pub common_reference : List Exchange → Option (List ℕ)
common_reference [] = None
common_reference (x ∷ xs) =
    if list_all (λ y. bytes_eq y.reference x.reference) xs then Some x.reference else None
