use Rattle.finder.proofs.Common.{◌≡◌, ◌∙◌, ◌+ℤ◌, pos, true≢false, sym, arith, to_z, of_z, ints, to_z-of_z, w128, ClaimData, IsLawful, data_of as claim_data, possible_by, turned, w128_keeps, bound_kept}
use Rattle.finder.proofs.Claim.{few_groups}
use Rattle.finder.proofs.Nearest.{first_is_nearest, next_is_nearest, nothing_so_far, none_is_nearest, passed, taken, turned_kept}
use Rattle.finder.proofs.nearest_refutation.nearest.Goals as goal
use Rattle.finder.proofs.nearest_refutation.nearest.Goals.{After-is_possible, then-claim-error+then-error-first+then-is_possible-2, else-claim-error, else-claim-error-via-then-claim-error+then-error-first+else-is_possible-2, else-claim-error-via-then-claim-error+else-error-first, else-claim-error-via-else-claim-error}

next_kept : (claim : ClaimData) → IsLawful claim
    → to_z w128 (of_z w128 (claim.bound +ℤ pos 1)) ≡ claim.bound +ℤ pos 1
next_kept claim lawful =
    w128_keeps (claim.bound +ℤ pos 1) (omega (arith, ints))

-- what is said of the first number of all
next_is : (c : After-is_possible)
    → c.is_possible.result ≡ possible_by c.args.rooms.now (claim_data c.args.claim.now)
    (turned c.args.side (c.args.claim.now.bound +ℤ pos 1))
next_is c =
    let claim = claim_data c.args.claim.now in
    let lawful = c.args.claim.now.lawful in
    let is = rw (bound_kept claim lawful, next_kept claim lawful) at c.turned.ensures.exact in
    rw (turned_kept c.args.side (claim.bound +ℤ pos 1) c.turned.result is (omega (arith, ints))) at
    c.is_possible.ensures

pub returns-then-is_possible : goal.returns-then-is_possible
returns-then-is_possible c =
    let claim = claim_data c.args.claim.now in
    let lawful = c.args.claim.now.lawful in
    rw (bound_kept claim lawful, next_kept claim lawful)
    (next_is_nearest c.args.side c.args.rooms.now claim c.args.limit c.requires.beyond
    (sym (next_is (goal.at.returns-then-is_possible c).After-is_possible) ∙ c.if-is_possible.true))

pub loop-server-init : goal.loop-server-init
loop-server-init c =
    let claim = claim_data c.args.claim.now in
    let beyond = c.requires.beyond in
    let limit = to_z-of_z w128 c.args.limit c.ranges.limit in
    let after = w128_keeps (c.args.limit +ℤ pos 1) (omega (arith, ints)) in
    rw (limit, after) (nothing_so_far c.args.side c.args.rooms.now claim c.args.limit beyond)

pub loop-server-preserved : goal.loop-server-preserved
loop-server-preserved c =
    let claim = claim_data c.args.claim.now in
    let bound = bound_kept claim c.args.claim.now.lawful in
    let side = c.args.side in
    let rooms = c.args.rooms.now in
    let server = c.loop-server.server in
    let error = c.least_on-error.result in
    let is = c.least_on-error.ensures.exact in
    let size = c.least_on-error.ensures.size in
    let kept = w128_keeps error (omega (arith, size)) in
    elim c.if-claim-error.branch [
      | then-claim-error+then-error-first+then-is_possible-2 w ↦
          let above = rw (bound, kept) at w.if-claim-error.true in
          let before = rw kept at w.if-error-first.true in
          let turned' = turned_kept side error w.turned-then-error-first.result
          (rw kept at w.turned-then-error-first.ensures.exact) (omega (arith, size)) in
          let passes = rw turned' at (sym w.is_possible-then-error-first.ensures ∙ w.if-is_possible-2.true) in
          rw (w.first-is, kept)
          (taken side rooms claim _ server _ c.loop-server.invariant error is
          (grind (arith, ints)) (grind (arith, ints)) passes)
      | else-claim-error w ↦
          rw w.first-is (passed side rooms claim _ server _ c.loop-server.invariant
          (elim w.else-claim-error.branch [
            | else-claim-error-via-then-claim-error+then-error-first+else-is_possible-2 w' ↦ λ over passes.
                (let turned' = turned_kept side error w'.turned-then-error-first.result
                (rw kept at w'.turned-then-error-first.ensures.exact) (omega (arith, size)) in
                absurd (true≢false (sym passes ∙ (rw (turned', is) at
                (sym w'.is_possible-then-error-first.ensures ∙ w'.if-is_possible-2.false)))))
            | else-claim-error-via-then-claim-error+else-error-first w' ↦ λ over passes.
                (let after = rw (kept, is) at w'.if-error-first.false in grind (arith, ints))
            | else-claim-error-via-else-claim-error w' ↦ λ over passes.
                absurd (let below = rw (bound, kept, is) at w'.if-claim-error.false in grind (arith, ints))
          ]))
    ]

pub returns-then-first-limit : goal.returns-then-first-limit
returns-then-first-limit c =
    let claim = claim_data c.args.claim.now in
    let few = few_groups claim c.args.claim.now.lawful in
    let limit = to_z-of_z w128 c.args.limit c.ranges.limit in
    let within = rw limit at c.if-first-limit.true in
    let all : c.loop-server.server ≡ 32 = omega arith in
    first_is_nearest c.args.side c.args.rooms.now claim few c.args.limit _
    (rw (limit, all) at c.loop-server.invariant)
    (sym (next_is (goal.at.returns-then-first-limit c).After-is_possible) ∙ c.if-is_possible.false)
    (grind (arith, ints))

pub returns-else-first-limit : goal.returns-else-first-limit
returns-else-first-limit c =
    let claim = claim_data c.args.claim.now in
    let few = few_groups claim c.args.claim.now.lawful in
    let limit = to_z-of_z w128 c.args.limit c.ranges.limit in
    let outside = rw limit at c.if-first-limit.false in
    let all : c.loop-server.server ≡ 32 = omega arith in
    none_is_nearest c.args.side c.args.rooms.now claim few c.args.limit _
    (rw (limit, all) at c.loop-server.invariant)
    (sym (next_is (goal.at.returns-else-first-limit c).After-is_possible) ∙ c.if-is_possible.false)
    (grind (arith, ints))
