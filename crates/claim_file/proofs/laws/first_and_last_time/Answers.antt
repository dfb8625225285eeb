use Rattle.claim_file.proofs.Common.{refl, days_from_civil, day_count, days_of_years, days_of_months}
use Rattle.claim_file.proofs.laws.first_and_last_time.Goals as goal

pub returns : goal.returns
unfolding days_from_civil day_count days_of_years days_of_months
returns c = record { first = refl; last = refl }
