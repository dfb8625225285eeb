use Rattle.claim_file.proofs.Common.{◌≡◌, ◌++◌, drop, map, option_map, addresses_of}
use Rattle.claim_file.proofs.address.read_addresses.Given as goal

abbrev pub invariant-loop-text : goal.invariant-loop-text
invariant-loop-text l =
    addresses_of (map (λ t. t.now) l.texts)
    ≡ option_map (λ found. l.found.items ++ found) (addresses_of (map (λ t. t.now) (drop l.text-index l.texts)))
