-- The entries of a piece, and the hull that they give.
--
-- Each server that has a sample has one entry, in the order of the servers: the samples that make
-- its interval over the piece narrowest. The hull is taken over the groups of servers, as in a
-- verdict.
use Rattle.std.specs.Prelude.{ℕ, ◌<◌, List, length, slice_get, All, Option, Some, None}
use Rattle.finder.specs.Common.{filter_map, ClaimData, Hull, Sample, best_of, piece_hull, part_of, Part, Stretch}
use Rattle.claim_file.specs.Group.{servers_of}

-- the best samples of a server over a stretch, if it has a sample
abbrev pub best_over : List Sample → ClaimData → Stretch → ℕ → Option (ℕ × ℕ)
best_over samples claim stretch server =
    best_of samples server stretch.begin stretch.end claim.drift_ppb

-- the entries of a piece
abbrev pub best_entries : List Sample → ClaimData → Stretch → List (ℕ × ℕ)
best_entries samples claim stretch =
    filter_map (best_over samples claim stretch) (servers_of (length claim.servers))

-- entries that name samples, out of this many
abbrev pub AreNamed : ℕ → List (ℕ × ℕ) → Type 0
AreNamed count entries = All (λ entry. (entry.0 < count) × (entry.1 < count)) entries

-- what an entry says that names these two samples
abbrev pub part_between : Stretch → ℕ → Option Sample → Option Sample → Option Part
part_between stretch ppb None high = None
part_between stretch ppb (Some low) None = None
part_between stretch ppb (Some low) (Some high) = Some (part_of low high stretch ppb)

abbrev pub part_named : List Sample → ClaimData → Stretch → ℕ × ℕ → Option Part
part_named samples claim stretch entry =
    part_between stretch claim.drift_ppb (slice_get samples entry.0) (slice_get samples entry.1)

-- what entries say, in their order
abbrev pub parts_named : List Sample → ClaimData → Stretch → List (ℕ × ℕ) → List Part
parts_named samples claim stretch entries = filter_map (part_named samples claim stretch) entries

-- the hull of a piece
unfoldable pub best_hull : List Sample → ClaimData → Stretch → Hull
best_hull samples claim stretch =
    piece_hull claim.groups claim.false_max
    (parts_named samples claim stretch (best_entries samples claim stretch))
