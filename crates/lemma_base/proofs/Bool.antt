-- Tests.
use Rattle.std.proofs.Common.{◌≡◌, ◌≤◌, Bool, true, false, cond, ◌||◌, refl, arith}

pub by_test : {P : Type 0} (b : Bool) → (b ≡ true → P) → (b ≡ false → P) → P
by_test true f g = f refl
by_test false f g = g refl

pub or_rest : (a b : Bool) → (a || b) ≡ true → a ≡ false → b ≡ true
or_rest true b h fails = absurd cc
or_rest false b h fails = h

pub cond-le_one : (b : Bool) → cond b 1 0 ≤ 1
cond-le_one true = omega arith
cond-le_one false = omega arith
