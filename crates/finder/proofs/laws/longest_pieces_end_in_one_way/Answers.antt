use Rattle.finder.proofs.OneWay as ways
use Rattle.finder.proofs.laws.longest_pieces_end_in_one_way.Goals as goal

pub returns : goal.returns
returns c = record {
  one = ways.one_of_three;
  carried_or_stuck = ways.never_carried_and_stuck;
  carried_or_too_long = ways.never_carried_and_too_long;
  stuck_or_too_long = ways.never_stuck_and_too_long;
  one_certificate = ways.one_certificate;
  one_tick = ways.one_tick;
}
