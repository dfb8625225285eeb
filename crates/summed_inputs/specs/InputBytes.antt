-- The bytes of a run's inputs, which it hands back.
use Rattle.std.specs.Prelude.{ℕ, List}
use Rattle.summed_inputs.specs.declared.input_bytes.InputBytes.{InputBytes}

-- what was read of claim, second input and capture
pub record InputBytesData : Type 0 where
  pub claim : List ℕ
  pub second : List ℕ
  pub capture : List ℕ

abbrev pub data_of : InputBytes → InputBytesData
data_of read = record {
  claim = read.claim.items;
  second = read.second.items;
  capture = read.capture.items;
}
