-- A sum: the SHA-256 of a file's bytes (FIPS 180-4), and the name of that file.
use Rattle.std.specs.Prelude.{◌≡◌, ◌≢◌, ℕ, ◌<◌, Bool, true, not, ◌&&◌, ◌||◌, List, [], ◌∷◌, length, find, Option, option_map}
use Rattle.std.specs.List.{list_all}
use Rattle.std.specs.Str.{bytes_eq}
use Rattle.hex.specs.Hex.{IsBytes}
use Rattle.sum_file.specs.declared.sum.Sum.{Sum}

-- a sum as lists: a digest of 32 bytes, and a name
pub record SumData : Type 0 where
  pub digest : List ℕ
  pub name : List ℕ

-- what a value of the program says
abbrev pub data_of : Sum → SumData
data_of sum = record { digest = sum.digest; name = sum.name.items }

-- what every sum that can be written keeps: a digest of 32 bytes, and a name that isn't empty
pub record IsWritable (sum : SumData) : Type 0 where
  pub digest_long : length sum.digest ≡ 32
  pub digest_bytes : IsBytes sum.digest
  pub named : 0 < length sum.name

-- if two sums have one name, they have one digest
abbrev pub Agree : SumData → SumData → Type 0
Agree a b = a.name ≡ b.name → a.digest ≡ b.digest

-- they give one name two digests
abbrev pub Disagree : SumData → SumData → Type 0
Disagree a b = (a.name ≡ b.name) × (a.digest ≢ b.digest)

-- the test that they don't
abbrev pub agree : SumData → SumData → Bool
agree a b = not (bytes_eq a.name b.name) || bytes_eq a.digest b.digest

-- no two of them disagree
abbrev pub all_agree : List SumData → Bool
all_agree [] = true
all_agree (sum ∷ later) = list_all (agree sum) later && all_agree later

-- the digest that the first of these sums with a name gives to it
abbrev pub digest_named : List ℕ → List SumData → Option (List ℕ)
digest_named name sums = option_map (λ sum. sum.digest) (find (λ sum. bytes_eq sum.name name) sums)
