-- What one entry says, by the tests that it passes.
use Rattle.checker.specs.declared.verdict.Why.TheVariants.{MixedServers, RepeatedServer}
use Rattle.cover_checker.proofs.Common.{◌≡◌, ◌≢◌, ℕ, Bool, true, false, cond, not, List, Option, Some, Result, Ok, Err, refl, sym, arith, nat_tests, ◌==◌, list_any, ClaimData, Exchange, Part, PieceWhy, Stretch, LeftOut, Of, group_of, part_from, part_of}

test_fails : (a b : ℕ) → a ≡ b → not (a == b) ≡ false
test_fails a b h = grind (arith, nat_tests)

test_holds : (a b : ℕ) → a ≢ b → not (a == b) ≡ true
test_holds a b h = grind (arith, nat_tests)

-- by three tests
tested : (claim : ClaimData) (stretch : Stretch) (x y : Exchange) → Bool → Bool → Bool → Result Part PieceWhy
tested claim stretch x y mixed repeated left =
    cond mixed (Err (Of MixedServers)) (cond repeated (Err (Of RepeatedServer))
    (cond left (Err LeftOut) (Ok (part_of claim stretch x y))))

module _ (claim : ClaimData) (out : ℕ → Bool) (stretch : Stretch) (earlier : List Part) (x y : Exchange)
    (at_x at_y : Option Exchange) (is_x : at_x ≡ Some x) (is_y : at_y ≡ Some y) where
  abbrev named : Bool
  named = list_any (λ part. part.server == x.server) earlier

  by_tests : (mixed repeated left : Bool) → not (x.server == y.server) ≡ mixed → named ≡ repeated
      → out (group_of claim x) ≡ left → part_from claim out stretch earlier at_x at_y
      ≡ tested claim stretch x y mixed repeated left
  unfolding tested
  by_tests mixed repeated left is_mixed is_repeated is_left =
      rw (is_x, is_y, is_mixed, is_repeated, is_left) refl

  pub mixed : x.server ≢ y.server → Err (Of MixedServers) ≡ part_from claim out stretch earlier at_x at_y
  unfolding tested
  mixed two = sym (by_tests true _ _ (test_holds x.server y.server two) refl refl)

  pub repeated : x.server ≡ y.server → named ≡ true
      → Err (Of RepeatedServer) ≡ part_from claim out stretch earlier at_x at_y
  unfolding tested
  repeated one is = sym (by_tests false true _ (test_fails x.server y.server one) is refl)

  pub left_out : x.server ≡ y.server → named ≡ false → out (group_of claim x) ≡ true
      → Err LeftOut ≡ part_from claim out stretch earlier at_x at_y
  unfolding tested
  left_out one is is_out = sym (by_tests false false true (test_fails x.server y.server one) is is_out)

  pub accepted : x.server ≡ y.server → named ≡ false → out (group_of claim x) ≡ false
      → part_from claim out stretch earlier at_x at_y ≡ Ok (part_of claim stretch x y)
  unfolding tested
  accepted one is is_in = by_tests false false false (test_fails x.server y.server one) is is_in
