-- What status 0 of a process shows that was called to check a certificate.
use Rattle.std.specs.Prelude.{◌≡◌, ℕ, List, [], Option, None, Some, IfSome, String, codes, map, string_bytes}
use Rattle.command_line.specs.Common.{AreOpened, AreSummed, Certificate, Feeds, FeedState, FilesState, Global, InputBytesData, IsProven, Place, Places, Row, certificate_second, fault_of, first_of, holds, names_of, place, subcommand_of, sums_of}
use Rattle.command_line.specs.Invocation.{operand}
use Rattle.command_line.specs.Words.{counted}
use Rattle.command_table.specs.Commands.{ntpaudit}

-- the paths of the files of a `check`, by the rows that were found for it
abbrev pub places_of_check : List Row → Places
places_of_check rows = record {
  claim = operand (codes "CLAIM") rows;
  second = Some (place Certificate (operand (codes "CERTIFICATE") rows));
  capture = operand (codes "CAPTURE") rows;
  sums = first_of (codes "sums") rows;
}

-- By the table of commands the words have no fault, and are a `check` of files at these paths.
pub record CallForCheck (places : Places) (words : List (String Global)) : Type 0 where
  pub rows : List Row
  pub faultless : fault_of ntpaudit (map string_bytes (counted words)) ≡ []
  pub found : subcommand_of ntpaudit (map string_bytes (counted words))
      ≡ Some (codes "check", rows)
  pub places_are : places ≡ places_of_check rows

-- Each file was opened once, by its path, and this is the text of the file of sums: if it's known
-- what stands there, that. Of claim, certificate and capture bytes were read to which the text gives
-- their SHA-256 under their operands; and these prove the claim.
pub record IsProvenBySums (places : Places) (files : FilesState) : Type 0 where
  pub opened : ℕ
  pub feeds : Feeds
  pub sums : FeedState
  pub are_opened : AreOpened files places opened feeds (Some sums)
  pub text : List ℕ
  pub text_is : IfSome sums.remaining (λ bytes. text ≡ bytes)
  pub read : InputBytesData
  pub summed : AreSummed certificate_second (sums_of (names_of places) text) feeds read
  pub proven : IsProven read.claim read.second read.capture

-- at the path of a second input, if there is one, these bytes stand
abbrev pub SecondHolds : FilesState → Option Place → List ℕ → Type 0
SecondHolds files None bytes = ⊥
SecondHolds files (Some place) bytes = files.standing place.path ≡ holds bytes

-- These bytes are known to stand at the paths of claim, certificate and capture, and there is no
-- file of sums.
pub record AreKnown (places : Places) (files : FilesState) (claim certificate capture : List ℕ)
    : Type 0 where
  pub unsummed : places.sums ≡ None
  pub claim_is : files.standing places.claim ≡ holds claim
  pub certificate_is : SecondHolds files places.second certificate
  pub capture_is : files.standing places.capture ≡ holds capture
