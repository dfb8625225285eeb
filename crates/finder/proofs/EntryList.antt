-- The entries of a piece, one after another.
use Rattle.finder.proofs.Common.{◌≡◌, ℕ, ◌<◌, List, length, Option, Some, None, refl, sym, ap, All, slice_get, slice_get_within, ClaimData, servers_of, Sample, part_of, Part, Stretch, AreNamed, best_over, best_entries, part_between, part_named, parts_named, All-slice_get}
use Rattle.finder.proofs.Best.{best_of_is}
use Rattle.finder.proofs.List.{All-filter_map}

-- the same if what is said was computed
pub part_computed : (samples : List Sample) (claim : ClaimData) (stretch : Stretch) (entry : ℕ × ℕ) (low high : Sample)
    (part : Part) → slice_get samples entry.0 ≡ Some low → slice_get samples entry.1 ≡ Some high
    → part ≡ part_of low high stretch claim.drift_ppb → part_named samples claim stretch entry ≡ Some part
part_computed samples claim stretch entry low high part at_low at_high is = rw (at_low, at_high) (ap Some (sym is))

-- the servers of what entries say are listed, if those of the samples are
pub listed_parts : (samples : List Sample) (claim : ClaimData) (stretch : Stretch) (entries : List (ℕ × ℕ)) (n : ℕ)
    → All (λ sample. sample.server < n) samples
    → All (λ part. part.server < n) (parts_named samples claim stretch entries)
listed_parts samples claim stretch entries n listed =
    All-filter_map (part_named samples claim stretch) (λ part. part.server < n)
    (λ entry part is. listed_part (slice_get samples entry.0) (slice_get samples entry.1) part entry.0 refl is) entries
  where
    listed_part : (low high : Option Sample) (part : Part) (k : ℕ) → slice_get samples k ≡ low
        → part_between stretch claim.drift_ppb low high ≡ Some part → part.server < n
    listed_part None high part k at is = absurd cc
    listed_part (Some low) None part k at is = absurd cc
    listed_part (Some low) (Some high) part k at is =
        let same : part_of low high stretch claim.drift_ppb ≡ part = cc in
        rw (← same) (All-slice_get (λ sample. sample.server < n) samples k low listed at)

-- ---- the entries of a piece

-- each names two samples that there are
pub entries_there : (samples : List Sample) (claim : ClaimData) (stretch : Stretch)
    → AreNamed (length samples) (best_entries samples claim stretch)
entries_there samples claim stretch =
    All-filter_map (best_over samples claim stretch)
    (λ entry. (entry.0 < length samples) × (entry.1 < length samples))
    (λ server entry is.
    let best = best_of_is samples server stretch.begin stretch.end claim.drift_ppb entry is in (
      slice_get_within samples entry.0 best.0.sample best.0.stands,
      slice_get_within samples entry.1 best.1.sample best.1.stands,
    ))
    (servers_of (length claim.servers))
