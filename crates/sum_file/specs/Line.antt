-- What one line of a file of sums says, and how `sha256sum` writes it.
--
-- A line is a digest as 64 hexadecimal digits in either case, a space, a mark, which is a space for
-- a text and `*` for a binary file, and a name that isn't empty. A line that begins with a
-- backslash has its name escaped; in any other the name stands as it is.
use Rattle.std.specs.Prelude.{◌≡◌, ℕ, ◌<◌, ◌==◌, ◌⊎◌, Bool, true, false, ◌&&◌, ◌||◌, List, ◌∷◌, ◌++◌, length, take, drop, slice_index, nat_lt, Option, Some, None, option_map, option_and_then, Ok, if◌then◌else◌}
use Rattle.std.specs.Result.{result_ok}
use Rattle.hex.specs.Hex.{decode_sized, encode_lower}
use Rattle.sum_file.specs.Name.{backslash, escaped, has_special, unescaped}
use Rattle.sum_file.specs.Sum.{SumData}

-- the bytes between the digits and the name
abbrev pub space : ℕ
space = 32

abbrev pub asterisk : ℕ
asterisk = 42

-- the mark of a text or of a binary file
abbrev pub IsMark : ℕ → Type 0
IsMark mark = (mark ≡ space) ⊎ (mark ≡ asterisk)

-- the line says this sum: it is spelled so
pub record Says (line : List ℕ) (sum : SumData) : Type 0 where
  -- of digits, a mark, and the name as it is shown
  pub digits : List ℕ
  pub mark : ℕ
  pub shown : List ℕ
  -- the digits are 64, and say the 32 bytes of the digest
  pub digest_of_digits : decode_sized digits 32 ≡ Ok sum.digest
  pub marked : IsMark mark
  pub named : 0 < length sum.name
  -- the name is shown as it is, or escaped behind a backslash before the line
  pub spelled : ((line ≡ digits ++ space ∷ mark ∷ shown) × (shown ≡ sum.name))
      ⊎ ((line ≡ backslash ∷ digits ++ space ∷ mark ∷ shown) × (unescaped shown ≡ Some sum.name))

-- the line that `sha256sum` writes for a sum, with this mark
abbrev pub written : ℕ → SumData → List ℕ
written mark sum =
    let spelled = encode_lower sum.digest ++ space ∷ mark ∷ escaped sum.name in
    if has_special sum.name then backslash ∷ spelled else spelled

-- a line whose name is escaped, and a line without the backslash before it
abbrev pub is_escaped : List ℕ → Bool
is_escaped line = slice_index line 0 == backslash

abbrev pub without_backslash : List ℕ → List ℕ
without_backslash line = if is_escaped line then drop 1 line else line

-- the digits and the shown name of a line without a backslash before it
abbrev pub parts_of : List ℕ → Option (List ℕ × List ℕ)
parts_of line =
    let mark = slice_index line 65 in
    if nat_lt 66 (length line) && slice_index line 64 == space
    && (mark == space || mark == asterisk)
    then Some (take 64 line, drop 66 line) else None

-- the name that is shown so
abbrev pub name_of : Bool → List ℕ → Option (List ℕ)
name_of true shown = unescaped shown
name_of false shown = Some shown

-- the sum of such parts
abbrev pub sum_with : Bool → List ℕ × List ℕ → Option SumData
sum_with escaped parts =
    option_and_then
    (λ bytes. option_map (λ n. record { digest = bytes; name = n }) (name_of escaped parts.1))
    (result_ok (decode_sized parts.0 32))

-- the sum that a line says
abbrev pub line_of : List ℕ → Option SumData
line_of line = option_and_then (sum_with (is_escaped line)) (parts_of (without_backslash line))
