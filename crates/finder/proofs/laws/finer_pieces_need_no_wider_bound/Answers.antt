use Rattle.finder.proofs.Finer.{is_empty, no_wider}
use Rattle.finder.proofs.laws.finer_pieces_need_no_wider_bound.Goals as goal

pub returns : goal.returns
returns c = record {
  holds = λ samples claim step times n j m k coarse fine lawful are some more wide_is holds narrow_is is.
      no_wider samples claim lawful are step times some more coarse fine wide_is narrow_is n j holds m k is;
  contradiction = λ samples claim step times n j k coarse fine lawful are some more wide_is holds narrow_is is.
      is_empty samples claim lawful are step times some more coarse fine wide_is narrow_is n j holds k is;
}
