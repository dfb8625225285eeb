use Rattle.std.proofs.Common.{pos, ◌+ℤ◌, refl}
use Rattle.feasibility.proofs.LowestError.{Changes-lowest_error, lowest_drifts, lowest_time_goes_on}
use Rattle.feasibility.proofs.laws.lowest_error_changes_as_it_may.Goals as goal

pub returns : goal.returns
returns c = record {
  rises = λ ppb first others from d slow. (Changes-lowest_error ppb slow first others from (from +ℤ pos d) d refl).up;
  falls = λ ppb first others from d slow. (Changes-lowest_error ppb slow first others from (from +ℤ pos d) d refl).down;
  drifts = λ ppb first others from to slow. lowest_drifts ppb slow first others from to;
  goes_on = λ ppb first others from to slow forth. lowest_time_goes_on ppb slow first others from to forth;
}
