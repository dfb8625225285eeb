-- The error at the two client moments.
use Rattle.sample_interval.proofs.Common.{◌≡◌, ℕ, ℤ, pos, ◌+ℤ◌, ◌-ℤ◌, ◌*ℤ◌, ◌≤ℤ◌, unsigned_abs, refl, arith, ints, times-add, Exchange, Moment, IsOffAtLeast, IsOffAtMost, IsWithinDistance, least_error, greatest_error, request_start, reply_end}

no_less : (low start stamp distance reading time received : ℤ) → start ≡ low +ℤ distance +ℤ stamp →
    time ≤ℤ received → pos (unsigned_abs (received -ℤ stamp)) ≤ℤ distance →
    (low +ℤ (reading -ℤ start)) ≤ℤ (reading -ℤ time)
no_less low start stamp distance reading time received a b c = omega (arith, ints)

no_more : (high last stamp distance reading time sent : ℤ) → high ≡ last -ℤ stamp +ℤ distance →
    sent ≤ℤ time → pos (unsigned_abs (sent -ℤ stamp)) ≤ℤ distance →
    (reading -ℤ time) ≤ℤ (high -ℤ (last -ℤ reading))
no_more high last stamp distance reading time sent a b c = omega (arith, ints)

-- the least error, the distance and the timestamp make the window's start, n times over too
start_scaled : (x : Exchange) (allowance : ℤ) (n : ℕ) → (request_start x allowance *ℤ pos n) ≡
    (least_error x allowance *ℤ pos n) +ℤ (x.distance *ℤ pos n) +ℤ (x.t2 *ℤ pos n)
start_scaled x allowance n =
    let least = least_error x allowance in
    omega (
      arith,
      ints,
      times-add (least +ℤ x.distance) least x.distance n refl,
      times-add (request_start x allowance) (least +ℤ x.distance) x.t2 n (omega (arith, ints)),
    )

-- the greatest error is the window's end less the timestamp, and the distance, n times over too
end_scaled : (x : Exchange) (allowance : ℤ) (n : ℕ) → (greatest_error x allowance *ℤ pos n) ≡
    (reply_end x allowance *ℤ pos n) -ℤ (x.t3 *ℤ pos n) +ℤ (x.distance *ℤ pos n)
end_scaled x allowance n =
    let rest = reply_end x allowance -ℤ x.t3 in
    omega (
      arith,
      ints,
      times-add (reply_end x allowance) rest x.t3 n (omega (arith, ints)),
      times-add (greatest_error x allowance) rest x.distance n refl,
    )

pub at_request : (x : Exchange) (allowance : ℤ) (n : ℕ) (request : Moment) (received : ℤ) →
    request.time ≤ℤ received → IsWithinDistance n x.t2 x.distance received →
    IsOffAtLeast n (least_error x allowance) (request_start x allowance) request
at_request x allowance n request received before near =
    no_less (least_error x allowance *ℤ pos n) (request_start x allowance *ℤ pos n) (x.t2 *ℤ pos n)
    (x.distance *ℤ pos n) request.reading request.time received (start_scaled x allowance n) before near

pub at_reply : (x : Exchange) (allowance : ℤ) (n : ℕ) (reply : Moment) (sent : ℤ) →
    sent ≤ℤ reply.time → IsWithinDistance n x.t3 x.distance sent →
    IsOffAtMost n (greatest_error x allowance) (reply_end x allowance) reply
at_reply x allowance n reply sent after near =
    no_more (greatest_error x allowance *ℤ pos n) (reply_end x allowance *ℤ pos n) (x.t3 *ℤ pos n)
    (x.distance *ℤ pos n) reply.reading reply.time sent (end_scaled x allowance n) after near
