-- An exchange with a server that isn't false: its four moments keep its two marks.
use Rattle.feasibility.proofs.Common.{ℕ, ◌<◌, ℤ, pos, ◌+ℤ◌, ◌-ℤ◌, ◌*ℤ◌, ◌≤ℤ◌, true, false, cond, int_lt, refl, arith, int_max, int_min, ints, times-add, IsWithinDistance, le_from_times}
use Rattle.feasibility.proofs.Scaling.{times-sub}

-- the true times of the four moments
pub record Times : Type 0 where
  pub leaves : ℤ
  pub received : ℤ
  pub sent : ℤ
  pub arrives : ℤ

-- they come one after another, and the server's are within its distance of its stamps
pub record AreServed (n : ℕ) (t2 t3 distance : ℤ) (times : Times) : Type 0 where
  pub before : times.leaves ≤ℤ times.received
  pub answered : times.received ≤ℤ times.sent
  pub after : times.sent ≤ℤ times.arrives
  pub near_t2 : IsWithinDistance n t2 distance times.received
  pub near_t3 : IsWithinDistance n t3 distance times.sent

module _ (n : ℕ) (place stamp distance time : ℤ) where
  at_most_stamp : time ≤ℤ ((stamp *ℤ pos n) +ℤ (distance *ℤ pos n))
      → time ≤ℤ ((place -ℤ ((place -ℤ stamp) -ℤ distance)) *ℤ pos n)
  at_most_stamp h =
      omega (arith, ints, times-add (place -ℤ ((place -ℤ stamp) -ℤ distance)) stamp distance n (omega (arith, ints)))

  at_least_stamp : ((stamp *ℤ pos n) -ℤ (distance *ℤ pos n)) ≤ℤ time
      → ((place -ℤ ((place -ℤ stamp) +ℤ distance)) *ℤ pos n) ≤ℤ time
  at_least_stamp h =
      omega (arith, ints, times-sub (place -ℤ ((place -ℤ stamp) +ℤ distance)) stamp distance n (omega (arith, ints)))

module _ (n : ℕ) (place t2 t3 distance : ℤ) (times : Times) (served : AreServed n t2 t3 distance times) where
  pub leaves_in_time : times.leaves ≤ℤ ((place -ℤ ((place -ℤ int_min t2 t3) -ℤ distance)) *ℤ pos n)
  leaves_in_time =
      elim (int_lt t3 t2)
      as (λ t. times.leaves ≤ℤ ((place -ℤ ((place -ℤ cond t t3 t2) -ℤ distance)) *ℤ pos n)) [
        | true ↦ at_most_stamp n place t3 distance times.leaves (omega (arith, ints, served))
        | false ↦ at_most_stamp n place t2 distance times.leaves (omega (arith, ints, served))
      ]

  pub arrives_in_time : ((place -ℤ ((place -ℤ int_max t2 t3) +ℤ distance)) *ℤ pos n) ≤ℤ times.arrives
  arrives_in_time =
      elim (int_lt t3 t2)
      as (λ t. ((place -ℤ ((place -ℤ cond t t2 t3) +ℤ distance)) *ℤ pos n) ≤ℤ times.arrives) [
        | true ↦ at_least_stamp n place t2 distance times.arrives (omega (arith, ints, served))
        | false ↦ at_least_stamp n place t3 distance times.arrives (omega (arith, ints, served))
      ]

  pub stamps_in_order : 0 < n → (t2 -ℤ distance) ≤ℤ (t3 +ℤ distance)
  stamps_in_order some =
      grind (
        arith,
        times-sub (t2 -ℤ distance) t2 distance n refl,
        times-add (t3 +ℤ distance) t3 distance n refl,
        le_from_times (t2 -ℤ distance) (t3 +ℤ distance) n some (omega (
          arith,
          ints,
          served,
          times-sub (t2 -ℤ distance)
              t2 distance n refl,
          times-add (t3 +ℤ distance) t3 distance n refl,
        )),
      )

  pub goes_on : times.leaves ≤ℤ times.arrives
  goes_on = omega (arith, ints, served)
