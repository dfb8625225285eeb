-- Which of two that ask about moments is given.
use Rattle.std.proofs.Common.{◌≡◌, Option, Some, None, refl, false}
use Rattle.std.specs.Prelude.{is_some}
use Rattle.command_line.specs.Common.{Text}
use Rattle.command_line.specs.Invocation.{AreNotOne}

pub none_there : (given : Option Text) → is_some given ≡ false → given ≡ None
none_there None is = refl
none_there (Some text) is = absurd cc

pub not_one : (time times : Option Text) → is_some time ≡ is_some times → AreNotOne time times
not_one None None same = tt
not_one None (Some file) same = absurd cc
not_one (Some text) None same = absurd cc
not_one (Some text) (Some file) same = tt

pub ruleset moments = (none_there, not_one)
