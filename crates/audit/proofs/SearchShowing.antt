-- What the outcome of a search shows.
use Rattle.std.proofs.Common.{rules}
use Rattle.audit.proofs.Common.{ℕ, Ok, Finds, EvidenceData, samples_in, IsSearchOf, found_outcome}
use Rattle.audit.proofs.Showing.{nothing_found}
use Rattle.finder.specs.declared.found.Found.{Found}
use Rattle.finder.specs.declared.found.Found.TheVariants as founds
use Rattle.finder.specs.Found.{data_of}

-- what the outcome of what was found shows
pub found_shows : (step : ℕ) (e : EvidenceData) (found : Found) → Finds (samples_in e) e.claim step (Ok found)
    → IsSearchOf step e (found_outcome (data_of found))
found_shows step e (founds.Certificate c) finds = search rules
found_shows step e (founds.Nothing piece hull) finds = search rules

pub ruleset search_found = (found_shows, nothing_found)
