-- Inputs that are read whole and held to their sums.
use Rattle.std.specs.Prelude.{◌≡◌, ◌≢◌, ◌⊎◌, ℕ, ◌+◌, ◌<◌, false, List, [], length, Option, Some, IfSome, IsSomeAnd, Result}
use Rattle.summed_inputs.specs.Common.{IsBytes, CountsFault, TakesAtMost, FeedState, max_certificate, max_claim, max_refutation, max_times, is_capture, is_claim, is_device, is_second, is_sums, Input, RunFault, TooBig, Device, Memory, Sums as Refused, Differ, sha256, sum_given, SecondKind, no_second, option_map_or}
use Rattle.report.specs.declared.fault.Input.TheVariants as inputs
use Rattle.summed_inputs.specs.InputBytes.{InputBytesData}
use Rattle.summed_inputs.specs.Sums.{AreGiven, Digests, IsOfSums, SumsData, second_input}

-- a feed of these bytes, of which none was taken and which has never failed
abbrev pub feed_of : List ℕ → FeedState
feed_of bytes = record { remaining = Some bytes; taken = 0; faults = 0 }

-- the greatest length of an input, in bytes: a capture may have 16 GiB
abbrev pub limit_of : Input → ℕ
limit_of inputs.Claim = max_claim
limit_of inputs.Certificate = max_certificate
limit_of inputs.Refutation = max_refutation
limit_of inputs.Times = max_times
limit_of inputs.Capture = 17179869184
limit_of inputs.Sums = 65536

-- An input was read: bytes, and all that its feed had, if that is known.
pub record IsRead (known : Option (List ℕ)) (read : List ℕ) : Type 0 where
  pub are_bytes : IsBytes read
  pub whole : IfSome known (λ bytes. read ≡ bytes)

-- an input was read, and has this digest
abbrev pub IsHeld : List ℕ → Option (List ℕ) → List ℕ → Type 0
IsHeld digest known read = IsRead known read × (sha256 read ≡ digest)

-- Why an input isn't held to this digest: its length, its digest, its device, or memory. If it's
-- one of the first two, what was read is too long, or has another digest.
abbrev pub IsUnheld : Input → List ℕ → Option (List ℕ) → List ℕ → RunFault → Type 0
IsUnheld which digest known read (TooBig input) =
    (input ≡ which) × (limit_of which < length read)
    × IfSome known (λ bytes. limit_of which < length bytes)
IsUnheld which digest known read (Refused (Differ input)) =
    (input ≡ which) × IsRead known read × (sha256 read ≢ digest)
IsUnheld which digest known read (Device input) = input ≡ which
IsUnheld which digest known read Memory = Unit {0}
IsUnheld which digest known read fault = ⊥

-- the feeds of claim, second input and capture at one moment
pub record Feeds : Type 0 where
  pub claim : FeedState
  pub second : FeedState
  pub capture : FeedState

abbrev pub feeds : FeedState → FeedState → FeedState → Feeds
feeds claim second capture = record { claim = claim; second = second; capture = capture }

-- What holds of the bytes that were read of a second input: none were, if the question has none.
abbrev pub OfSecond : SecondKind → List ℕ → Type 0 → Type 0
OfSecond no_second read Holds = read ≡ []
OfSecond kind read Holds = Holds

-- why a second input isn't held to this digest
abbrev pub IsSecondUnheld :
    SecondKind → List ℕ → Option (List ℕ) → List ℕ → RunFault → Type 0
IsSecondUnheld kind digest known read fault =
    IsSomeAnd (second_input kind) (λ which. IsUnheld which digest known read fault)

-- Why the inputs aren't held: the fault is that of the first, in the order claim, second input,
-- capture, that isn't. Those before it were read and held, and those after it weren't read.
abbrev pub AreUnheld : SecondKind → Digests → Feeds → Feeds → InputBytesData → RunFault → Type 0
AreUnheld kind digests before after read fault =
    (IsUnheld inputs.Claim digests.claim before.claim.remaining read.claim fault
    × (after.second ≡ before.second) × (after.capture ≡ before.capture))
    ⊎ ((IsHeld digests.claim before.claim.remaining read.claim
    × IsSecondUnheld kind digests.second before.second.remaining read.second fault
    × (after.capture ≡ before.capture))
    ⊎ (IsHeld digests.claim before.claim.remaining read.claim
    × OfSecond kind read.second (IsHeld digests.second before.second.remaining read.second)
    × IsUnheld inputs.Capture digests.capture before.capture.remaining read.capture fault))

-- Bytes with the SHA-256 that a file of sums gives to this name; those that a feed had, if they are
-- known.
abbrev pub IsSummed : List ℕ → List ℕ → Option (List ℕ) → List ℕ → Type 0
IsSummed text name known bytes = IsRead known bytes × (sum_given text name ≡ Some (sha256 bytes))

-- All three were read, and have their sums.
pub record AreSummed (kind : SecondKind) (sums : SumsData) (before : Feeds)
    (read : InputBytesData) : Type 0 where
  pub claim : IsSummed sums.text sums.claim before.claim.remaining read.claim
  pub second : OfSecond kind read.second
      (IsSummed sums.text sums.second before.second.remaining read.second)
  pub capture : IsSummed sums.text sums.capture before.capture.remaining read.capture

-- how the failures of the inputs' devices are counted; no other device failed
pub record CountFaults {A : Type 0} (answer : Result A RunFault)
    (before after : Feeds) : Type 0 where
  pub claim : CountsFault (is_device is_claim answer) before.claim.faults after.claim.faults
  pub second : CountsFault (is_device is_second answer) before.second.faults after.second.faults
  pub capture : CountsFault (is_device is_capture answer) before.capture.faults after.capture.faults
  pub sums : is_device is_sums answer ≡ false

-- how many bytes are taken of a second input at most
abbrev pub most_second : SecondKind → ℕ
most_second kind = option_map_or (λ which. limit_of which + 1) (second_input kind) 0

-- at most its limit and one byte more is taken of each input
pub record TakeAtMost (kind : SecondKind) (before after : Feeds) : Type 0 where
  pub claim : TakesAtMost (limit_of inputs.Claim + 1) before.claim after.claim
  pub second : TakesAtMost (most_second kind) before.second after.second
  pub capture : TakesAtMost (limit_of inputs.Capture + 1) before.capture after.capture

-- Why inputs aren't judged: the file of sums, after which no input is read, or the first input
-- that can't be held to what the file gives.
abbrev pub IsUnjudgedFor :
    SecondKind → SumsData → Feeds → Feeds → InputBytesData → RunFault → Type 0
IsUnjudgedFor kind sums before after read fault =
    (IsOfSums kind sums fault × (after ≡ before)) ⊎ ((digests : Digests)
    × AreGiven kind sums digests × AreUnheld kind digests before after read fault)
