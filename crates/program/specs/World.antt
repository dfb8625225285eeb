-- What a run can change, and how it ends where a file can't be opened.
use Rattle.std.specs.Prelude.{◌≡◌, List, Err}
use Rattle.program.specs.Common.{SinkState, Concludes, conclusion_of, Conclusion, RunFault}
use Rattle.program.specs.Files.{FilesState}
use Rattle.program.specs.Opening.{IsFirstUnopened, Place}

-- the files, the output, and where faults are told
pub record World : Type 0 where
  pub files : FilesState
  pub out : SinkState
  pub err : SinkState

abbrev pub world : FilesState → SinkState → SinkState → World
world files out err = record { files = files; out = out; err = err }

-- An input can't be opened: that of the first is told, and nothing is read or written.
pub record IsUnopened (order : List Place) (before after : World) (conclusion : Conclusion)
    : Type 0 where
  pub fault : RunFault
  pub fault_is : IsFirstUnopened before.files.standing order before.files.opened
      after.files.opened fault
  pub untouched : after.out ≡ before.out
  pub undrafted : after.files.drafts ≡ before.files.drafts
  pub concludes : Concludes (Err fault) before.err after.err
  pub conclusion_is : conclusion ≡ conclusion_of (Err fault)
