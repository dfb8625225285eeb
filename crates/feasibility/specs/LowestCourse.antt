-- The lowest course: the one whose error is as small as low marks let it be, at every reading.
--
-- With P for the rate, in parts of B, its fineness is B*B - P*P. Then what the error may rise and
-- what it may fall while the clock advances by a tick are whole: P/(B+P) of a tick is P*(B-P), and
-- P/(B-P) is P*(B+P). What one low mark leaves at a reading is the mark's error at its place, less
-- before it, since the error can have risen since, and less after it, since it can have fallen. The
-- lowest error is the greatest of what the marks leave.
--
-- The clock reads the start of its window at each request and the end of it at each reply, with
-- false servers too. A server receives as soon as it can, and then answers as soon as it can.
use Rattle.std.specs.Prelude.{ℕ, ◌+◌, ◌-◌, ◌*◌, ℤ, pos, ◌-ℤ◌, ◌*ℤ◌, unsigned_abs, int_le, Bool, if◌then◌else◌, List, fold, slice_get, Option, Some, None}
use Rattle.feasibility.specs.Common.{int_max, Course, ClaimData, Mark, Exchange, Moment, billion, request_start, reply_end}
use Rattle.feasibility.specs.TrueMarks.{low_marks}

-- how many parts a tick has
abbrev pub fineness_of : ℕ → ℕ
fineness_of ppb = (billion - ppb) * (billion + ppb)

-- how many parts the error may rise while the clock advances by a tick
abbrev pub most_rise : ℕ → ℕ
most_rise ppb = ppb * (billion - ppb)

-- how many it may fall
abbrev pub most_fall : ℕ → ℕ
most_fall ppb = ppb * (billion + ppb)

-- the least error that a low mark leaves at a reading: the mark's, less what the error may have
-- fallen since the mark's place, or may rise until then
abbrev pub error_left : ℕ → ℤ → Mark → ℤ
error_left ppb reading mark = (mark.error *ℤ pos (fineness_of ppb))
    -ℤ pos ((if int_le mark.place reading then most_fall ppb else most_rise ppb)
    * unsigned_abs (reading -ℤ mark.place))

-- the greatest of what a first low mark and others leave at a reading
abbrev pub lowest_error : ℕ → Mark → List Mark → ℤ → ℤ
lowest_error ppb first others reading =
    fold (λ error mark. int_max error (error_left ppb reading mark)) (error_left ppb reading first)
    others

-- the moment at which the clock reads so many ticks, with that error
abbrev pub lowest_moment : ℕ → Mark → List Mark → ℤ → Moment
lowest_moment ppb first others reading = record {
  time = (reading *ℤ pos (fineness_of ppb)) -ℤ lowest_error ppb first others reading;
  reading = reading *ℤ pos (fineness_of ppb);
}

-- when a server receives a request that left at this time: at once, or when its timestamp lets it
abbrev pub receipt_time : ℕ → ℤ → Exchange → ℤ
receipt_time n leaves x = int_max leaves ((x.t2 -ℤ x.distance) *ℤ pos n)

-- when it sends its reply: at once, or when its timestamp lets it
abbrev pub answer_time : ℕ → ℤ → Exchange → ℤ
answer_time n leaves x = int_max (receipt_time n leaves x) ((x.t3 -ℤ x.distance) *ℤ pos n)

-- what is said about an exchange, or 0 if there is none
abbrev pub of_exchange : (Exchange → ℤ) → Option Exchange → ℤ
of_exchange f None = pos 0
of_exchange f (Some x) = f x

-- the true time at which the request of an exchange leaves
abbrev pub leaving_time : ClaimData → Mark → List Mark → Exchange → ℤ
leaving_time claim first others x =
    (lowest_moment claim.drift_ppb first others (request_start x claim.reading)).time

-- the lowest course of a first low mark and of those of the exchanges, with these servers false,
-- observed at this reading
abbrev pub lowest_course : ClaimData → (ℕ → Bool) → Mark → ℤ → List Exchange → Course
lowest_course claim is_false first reading xs =
    let others = low_marks claim.reading is_false xs in
    let ppb = claim.drift_ppb in
    let n = fineness_of ppb in
    record {
      fineness = n;
      is_false = is_false;
      request = λ k. lowest_moment ppb first others
          (of_exchange (λ x. request_start x claim.reading) (slice_get xs k));
      received = λ k.
          of_exchange (λ x. receipt_time n (leaving_time claim first others x) x) (slice_get xs k);
      sent = λ k.
          of_exchange (λ x. answer_time n (leaving_time claim first others x) x) (slice_get xs k);
      reply = λ k. lowest_moment ppb first others
          (of_exchange (λ x. reply_end x claim.reading) (slice_get xs k));
      observation = lowest_moment ppb first others reading;
    }
