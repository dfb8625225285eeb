-- Where the exchanges with servers that aren't false agree, the lowest course fits.
use Rattle.feasibility.proofs.Common.{ℕ, ◌≤◌, ℤ, pos, Bool, List, [], ◌∷◌, map, length, refl, All, All-nil, All-head, ClaimData, IsLawful as IsLawfulExchange, Exchange, Mark, low_mark, high_mark, AreCompatible, false_group_count, SomeCourseAt, true_exchanges, low_marks, AreAllCompatible, DoAgree, FitsWithFalse, lowest_course, arith}
use Rattle.claim_file.specs.Claim.{IsLawful}
use Rattle.feasibility.proofs.LowestCourse.{Needs, lowest_fits, lowest_shares}

-- the first of some marks, or one at 0
first_of : List Mark → Mark
first_of [] = record { place = pos 0; error = pos 0 }
first_of (mark ∷ marks) = mark

first_agrees : (ppb : ℕ) (low high : Exchange → Mark) (ts : List Exchange)
    → AreAllCompatible ppb (map low ts) (map high ts) → All (AreCompatible ppb (first_of (map low ts))) (map high ts)
unfolding first_of
first_agrees ppb low high [] all = All-nil (AreCompatible ppb (first_of []))
first_agrees ppb low high (t ∷ ts) all =
    All-head (λ mark. All (AreCompatible ppb mark) (map high (t ∷ ts))) (low t) (map low ts) all

module _ (claim : ClaimData) (xs : List Exchange) (is_false : ℕ → Bool) (lawful : IsLawful claim)
    (each : All (IsLawfulExchange (length claim.servers)) xs)
    (few : false_group_count claim.groups is_false ≤ claim.false_max) (agree : DoAgree claim is_false xs) where
  abbrev first : Mark
  first = first_of (low_marks claim.reading is_false xs)

  needs : Needs claim is_false first xs
  needs =
      grind (
        arith,
        first_agrees claim.drift_ppb (low_mark claim.reading) (high_mark claim.reading) (true_exchanges
            is_false xs) agree.compatible,
      )

  -- observed at any reading
  pub agreement_gives_course_at : (reading : ℤ) → SomeCourseAt claim xs reading
  agreement_gives_course_at reading = (
    lowest_course claim is_false first reading xs,
    lowest_fits needs reading few,
    refl,
    lowest_shares claim is_false first reading xs,
  )

  pub agreement_gives_course : FitsWithFalse claim is_false xs
  agreement_gives_course = (
    lowest_course claim is_false first claim.first xs,
    (lowest_fits needs claim.first few).fits,
    λ server true'. true',
  )
