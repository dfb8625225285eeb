-- The hull over a stretch of what exchanges say by their marks, and what it says of every course.
use Rattle.std.specs.Prelude.{◌≡◌, ℕ, Bool, false, List, Some, slice_get}
use Rattle.cover_checker.specs.Common.{ClaimData, Course, Exchange, Fits, Hull, IsInHull, IsObservedIn, LieWithin, Part, Stretch, group_of, holds_false}
use Rattle.cover_checker.specs.Interval.{part_of}

-- a part is what an entry says, of one server whose group isn't left out
pub record IsSaid (claim : ClaimData) (xs : List Exchange) (out : ℕ → Bool) (stretch : Stretch)
    (entry : ℕ × ℕ) (part : Part) : Type 0 where
  pub low : Exchange
  pub high : Exchange
  pub low_stands : slice_get xs entry.0 ≡ Some low
  pub high_stands : slice_get xs entry.1 ≡ Some high
  pub one_server : low.server ≡ high.server
  pub stays : out (group_of claim low) ≡ false
  pub is : part_of claim stretch low high ≡ part

-- some entry says it
abbrev pub IsSaidBySome : ClaimData → List Exchange → (ℕ → Bool) → Stretch → Part → Type 0
IsSaidBySome claim xs out stretch part =
    (entry : ℕ × ℕ) × IsSaid claim xs out stretch entry part

-- each of these groups holds a false server in a course
abbrev pub HasFalse : ClaimData → (ℕ → Bool) → Course → Type 0
HasFalse claim out course = LieWithin out (holds_false claim.groups course.is_false)

-- in every course of some that fits the exchanges, the error lies in a hull at every moment whose
-- reading lies in the stretch
abbrev pub HoldsErrorOf : ClaimData → List Exchange → Stretch → (Course → Type 0) → Hull → Type 0
HoldsErrorOf claim xs stretch Among hull = (course : Course) → Fits claim xs course → Among course
    → IsObservedIn course stretch.begin stretch.end → IsInHull course hull
