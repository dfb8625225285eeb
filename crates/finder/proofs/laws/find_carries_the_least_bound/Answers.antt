use Rattle.finder.proofs.OtherBounds.{holds, no_lesser, none_holds}
use Rattle.finder.proofs.laws.find_carries_the_least_bound.Goals as goal

pub returns : goal.returns
returns c = record {
  holds = λ samples claim step n k m envelope found is le. holds samples claim step envelope found n k m is le;
  no_lesser = λ samples claim step n k m envelope found is less.
      no_lesser samples claim step envelope found n k m is less;
  none_holds = λ samples claim step k m envelope found is. none_holds samples claim step envelope found k m is;
}
