-- What the program does: from the words of a command line to its two outputs and the exit status,
-- over any files.
use Rattle.std.specs.Prelude.{◌≡◌, ◌⊎◌, ℕ, IsTrue, List, Option, None, Some, Result, Ok, Err, String, Vec, codes, option_map}
use Rattle.command_line.specs.Common.{Global, Concludes, conclusion_of, Memory, IsAskedBy, IsBare, IsRefusedBy, IsUntouched, FilesState, Says, SinkState, World, world, Invocation, Response}
use Rattle.command_line.specs.Words.{Means}

-- What the words call for is done.
pub record IsDone (words : List (String Global)) (before after : World) (response : Response)
    : Type 0 where
  pub invocation : Invocation
  pub means : Means words invocation
  pub says : Says invocation before after response
  pub asked_is : IsAskedBy invocation response.asked

-- Memory was refused before the words were read: that is told, and nothing else is done.
pub record IsUndone (before after : World) (response : Response) : Type 0 where
  pub untouched : IsUntouched before after
  pub concludes : Concludes (Err Memory) before.err after.err
  pub conclusion_is : response.conclusion ≡ conclusion_of (Err Memory)
  pub bare : IsBare response

-- the response to the words of a command line
abbrev pub Runs : List (String Global) → World → World → Response → Type 0
Runs words before after response =
    IsDone words before after response ⊎ IsUndone before after response

-- One of the words isn't UTF-8: the command line is refused.
pub record IsUnread (before after : World) (response : Response) : Type 0 where
  pub invocation : Invocation
  pub refused : IsRefusedBy (codes "error: an operand isn't UTF-8\n") invocation
  pub says : Says invocation before after response
  pub asked_is : IsAskedBy invocation response.asked

-- the response to the words of a process: there are none, if one of them isn't UTF-8 or memory is
-- refused while they are read
abbrev pub RunsOn : Option (List (String Global)) → World → World → Response → Type 0
RunsOn None before after response = IsUnread before after response ⊎ IsUndone before after response
RunsOn (Some words) before after response = Runs words before after response

-- the words of a process as they were read
abbrev pub words_in : {E : Type 0} → Result (Option (Vec (String Global) Global)) E
    → Option (List (String Global))
words_in (Ok given) = option_map (λ words. words.items) given
words_in (Err refused) = None

-- an output of a process on which nothing was written
pub record IsFresh (sink : SinkState) : Type 0 where
  pub is_open : IsTrue sink.is_open
  pub unfailed : sink.faults ≡ 0

-- That is the response on the two outputs of a process, over files that change so.
pub record RunsOnOutputs (words : Option (List (String Global))) (files files' : FilesState)
    (response : Response) : Type 0 where
  pub out : SinkState
  pub out' : SinkState
  pub err : SinkState
  pub err' : SinkState
  pub out_is : IsFresh out
  pub err_is : IsFresh err
  pub runs : RunsOn words (world files out err) (world files' out' err') response

-- A process over these files ends with this status: that of the response to its words.
pub record Ends (words : Option (List (String Global))) (files : FilesState) (status : ℕ)
    : Type 0 where
  pub files' : FilesState
  pub response : Response
  pub runs : RunsOnOutputs words files files' response
  pub status_is : status ≡ response.conclusion.code
