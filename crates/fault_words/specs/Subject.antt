-- Which file a fault is of, and what it is called.
use Rattle.std.specs.Prelude.{List, ℕ, [], ◌++◌, codes, Option, None, Some}
use Rattle.report.specs.declared.fault.Input.{Input}
use Rattle.report.specs.declared.fault.Input.TheVariants as inputs
use Rattle.report.specs.declared.fault.RunFault.{RunFault}
use Rattle.report.specs.declared.fault.RunFault.TheVariants as faults
use Rattle.report.specs.declared.fault.SumsFault.{SumsFault}
use Rattle.report.specs.declared.fault.SumsFault.TheVariants as sums
use Rattle.fault_words.specs.declared.subject.Names.{Names}

-- the names of the inputs; the second is a certificate, a refutation or readings
pub record NamesData : Type 0 where
  pub claim : List ℕ
  pub capture : List ℕ
  pub second : List ℕ
  pub sums : List ℕ

-- the same of a value of the program
abbrev pub names_data : Names → NamesData
names_data names = record {
  claim = names.claim.now;
  capture = names.capture.now;
  second = names.second.now;
  sums = names.sums.now;
}

-- each input's own
abbrev pub name_of : NamesData → Input → List ℕ
name_of names inputs.Claim = names.claim
name_of names inputs.Capture = names.capture
name_of names inputs.Certificate = names.second
name_of names inputs.Refutation = names.second
name_of names inputs.Times = names.second
name_of names inputs.Sums = names.sums

-- the input whose sum has a fault
abbrev pub sums_input : SumsFault → Input
sums_input (sums.Form line) = inputs.Sums
sums_input (sums.Missing input) = input
sums_input (sums.Differ input) = input

-- the input that a fault is of, if it is of one
abbrev pub input_of : RunFault → Option Input
input_of (faults.Capture fault) = Some inputs.Capture
input_of (faults.Claim fault) = Some inputs.Claim
input_of (faults.Certificate fault) = Some inputs.Certificate
input_of (faults.Refutation fault) = Some inputs.Refutation
input_of (faults.Times fault) = Some inputs.Times
input_of faults.Exchanges = Some inputs.Capture
input_of faults.Pieces = Some inputs.Claim
input_of (faults.TooBig input) = Some input
input_of (faults.Device input) = Some input
input_of (faults.Write sent) = None
input_of faults.Memory = None
input_of (faults.Sums fault) = Some (sums_input fault)

-- a line's beginning: the name of the input, if there is one
abbrev pub subject : NamesData → Option Input → List ℕ
subject names None = []
subject names (Some input) = name_of names input ++ codes ": "
