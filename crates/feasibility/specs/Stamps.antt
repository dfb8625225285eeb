-- What can be observed of the clock, in courses that fit in one sense or another.
--
-- A course may fit though a request left long after its stamp, or a reply arrived long before its
-- own. In the narrower sense each reading lies in the window of its record. Which errors the clock
-- may have, and at which readings, is the same in both.
use Rattle.std.specs.Prelude.{◌≡◌, ℕ, ℤ, pos, ◌*ℤ◌, Bool}
use Rattle.feasibility.specs.Common.{Course, error_of}

-- in some course of which this holds, of any fineness, the clock is off by this error when it shows
-- this reading, both in ticks, and just these servers are false
pub record IsObservable (Fitting : Course → Type 0) (is_false : ℕ → Bool) (reading error : ℤ)
    : Type 0 where
  pub course : Course
  pub fits : Fitting course
  pub just_these_false : (server : ℕ) → course.is_false server ≡ is_false server
  pub observed : course.observation.reading ≡ (reading *ℤ pos course.fineness)
  pub off : error_of course.observation ≡ (error *ℤ pos course.fineness)
