-- Courses that fit, so that what is said about all courses that fit is said about at least one.
--
-- One server answers one request. The claim is for one moment, with no drift and no allowance. The
-- capture's clock counts microseconds, so the windows of its records are 4,295 and 4,296 ticks
-- long.
use Rattle.std.specs.Prelude.{ℕ, ◌+◌, ◌-◌, ◌*◌, ◌^◌, ◌==◌, ℤ, pos, ◌-ℤ◌, false, [], ◌∷◌, if◌then◌else◌}
use Rattle.checker.specs.Common.{ClaimData, worked_second, worked_claim, Exchange, Moment}
use Rattle.checker.specs.Course.{Course}

-- the exchange under the worked claim: sent at its second, answered 10 ms later, received 20 ms
-- later
abbrev pub worked_exchange : Exchange
worked_exchange = record {
  server = 0;
  request = 0;
  reply = 1;
  t1_low = pos worked_second;
  t1_high = pos (worked_second + 4295);
  t4_low = pos (worked_second + 85899345);
  t4_high = pos (worked_second + 85903641);
  t2 = pos (worked_second + 42949673);
  t3 = pos (worked_second + 42949673);
  distance = pos 1;
  leap = 0;
  stratum = 1;
  reference = 71 ∷ 80 ∷ 83 ∷ 0 ∷ [];
}

-- the clock is off by this error at this reading
abbrev pub moment_with : ℤ → ℤ → Moment
moment_with error reading = record { time = reading -ℤ error; reading = reading }

-- a course of whole ticks with no false server, in which the clock is off by one error throughout;
-- it reads the second itself at the request and when it is observed, and the server receives and
-- sends at one true time
abbrev pub served_course : ℤ → ℤ → ℤ → Course
served_course error reply_reading served = record {
  fineness = 1;
  is_false = λ server. false;
  request = λ k. moment_with error (pos worked_second);
  received = λ k. served;
  sent = λ k. served;
  reply = λ k. moment_with error reply_reading;
  observation = moment_with error (pos worked_second);
}

-- the one in which the server's timestamps are true
abbrev pub worked_course : ℤ → ℤ → Course
worked_course error reply_reading =
    served_course error reply_reading (pos (worked_second + 42949673))

-- one in which the clock reads this at the request, and that at the reply
abbrev pub stamped_course : ℤ → ℤ → ℤ → ℤ → Course
stamped_course error request_reading reply_reading served =
    record (served_course error reply_reading served) {
      request = λ k. moment_with error request_reading;
    }

-- a clock that runs at half its speed: while true time goes on by 171,798,690 ticks from the
-- request to the reply, it shows half of that. So its error changes by half of true time, and by
-- all of what it shows.
abbrev pub slow_reply : Moment
slow_reply = record {
  time = pos (worked_second + 171798690);
  reading = pos (worked_second + 85899345);
}

abbrev pub slow_course : Course
slow_course =
    record (worked_course (pos 0) (pos (worked_second + 85899345))) { reply = λ k. slow_reply }

-- the claim, with a drift of half
abbrev pub slow_claim : ClaimData
slow_claim = record worked_claim { drift_ppb = 500000000 }

-- a course in which nothing happens but that the clock is observed
abbrev pub lone_course : ℕ → Moment → Course
lone_course n observation = record {
  fineness = n;
  is_false = λ server. false;
  request = λ k. observation;
  received = λ k. observation.time;
  sent = λ k. observation.time;
  reply = λ k. observation;
  observation = observation;
}

-- a second exchange, an hour before the worked one, in which the clock was a second ahead
abbrev pub hour : ℕ
hour = 3600 * 2 ^ 32

abbrev pub earlier_exchange : Exchange
earlier_exchange = record worked_exchange {
  t1_low = pos (worked_second - hour);
  t1_high = pos (worked_second - hour + 4295);
  t4_low = pos (worked_second - hour + 85899345);
  t4_high = pos (worked_second - hour + 85903641);
}

-- a clock that is stepped between the two: it is right at the worked exchange and when it is
-- observed
abbrev pub stepped_course : Course
stepped_course = record (worked_course (pos 0) (pos (worked_second + 85899345))) {
  request = λ k.
      if k == 0 then moment_with (pos (2 ^ 32)) (pos (worked_second - hour))
      else moment_with (pos 0) (pos worked_second);
}
