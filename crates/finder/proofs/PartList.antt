-- What servers say at one reading of the clock, one server after another.
use Rattle.std.specs.Prelude.{filter_map}
use Rattle.finder.proofs.Common.{◌≡◌, ◌∙◌, ℕ, ℤ, ◌+◌, ◌<◌, ◌≤◌, ◌++◌, List, [], ◌∷◌, length, Option, Some, None, ap, arith, length-append, All, All-push, Sample, Part, numbers_below, piece_hull, ClaimData, best_entries, best_hull, parts_named, stretch_over, best_part, best_parts}
use Rattle.checker.proofs.PieceFit.{all_numbers}
use Rattle.finder.proofs.List.{one_more, without}
use Rattle.finder.proofs.Part.{parts_said}

-- the parts of the servers whose number is below `server`, of a claim with this many servers
pub record StandsFor (says : ℕ → Option Part) (servers server : ℕ) (parts : List Part) : Type 0 where
  pub so_far : parts ≡ filter_map says (numbers_below server)
  pub fits : length parts ≤ server
  pub listed : All (λ part. part.server < servers) parts

module _ (says : ℕ → Option Part) (servers server : ℕ) (within : server < servers) where
  pub one_stands : (old new : List Part) (part : Part) → StandsFor says servers server old → says server ≡ Some part →
      part.server ≡ server → new ≡ old ++ part ∷ [] → StandsFor says servers (server + 1) new
  one_stands old new part stands is same pushed = record {
    so_far = grind (arith, all_numbers server, all_numbers (server + 1), one_more says server);
    fits = omega (arith, ap length pushed, length-append old (part ∷ []), stands.fits);
    listed = rw pushed
        (All-push (λ (p : Part). p.server < servers) old part stands.listed (omega (arith, same, within)));
  }

  pub none_stands : (old new : List Part) → StandsFor says servers server old → says server ≡ None → new ≡ old →
      StandsFor says servers (server + 1) new
  none_stands old new stands is same = record {
    so_far = rw (all_numbers (server + 1))
        (same ∙ without says server old (rw (all_numbers server) at stands.so_far) is);
    fits = omega (arith, ap length same, stands.fits);
    listed = rw same stands.listed;
  }

-- ---- the same by the best entries

module _ (samples : List Sample) (claim : ClaimData) (tick : ℤ) where
  pub parts_of_entries : best_parts samples claim tick
      ≡ parts_named samples claim (stretch_over tick tick) (best_entries samples claim (stretch_over tick tick))
  parts_of_entries =
      ap (filter_map (best_part samples claim.drift_ppb tick)) (all_numbers (length claim.servers))
      ∙ parts_said samples claim tick tick

  pub hull_of_entries : piece_hull claim.groups claim.false_max (best_parts samples claim tick)
      ≡ best_hull samples claim (stretch_over tick tick)
  unfolding best_hull
  hull_of_entries = ap (piece_hull claim.groups claim.false_max) parts_of_entries

pub ruleset of_entries = (parts_of_entries, hull_of_entries)
