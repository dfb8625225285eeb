-- What may be opened: which bytes stand at which path, as far as that is known.
use Rattle.std.specs.Prelude.{◌≡◌, ◌+◌, ◌++◌, ◌^◌, ◌<◌, ℕ, Bool, true, false, List, [], Option, None, Some, IfSome, IsTrue, codes}
use Rattle.byte_stream.specs.State.{FeedState, SinkState}

-- what is known of a path: nothing, that it can't be opened, or which bytes stand there
pub data Standing : Type 0 where
  unknown : Standing
  missing : Standing
  holds : List ℕ → Standing

-- drafts at one moment: how many were made, the name of the last one, and whether it is still
-- there; how many have taken their place, how often one couldn't be made or take it, and what was
-- put at each path
pub record DraftsState : Type 0 where
  pub made : ℕ
  pub last : Option (List ℕ)
  pub is_there : Bool
  pub placed : ℕ
  pub hindered : ℕ
  pub put : List ℕ → Standing

-- files at one moment: what stands at each path, how many were opened, and their drafts
pub record FilesState : Type 0 where
  pub standing : List ℕ → Standing
  pub opened : ℕ
  pub drafts : DraftsState

-- files of which nothing is known, and none was opened or made
abbrev pub unknown_files : FilesState
unknown_files = record {
  standing = λ path. unknown;
  opened = 0;
  drafts = record {
    made = 0;
    last = None;
    is_there = false;
    placed = 0;
    hindered = 0;
    put = λ path. unknown;
  };
}

-- the name of the draft of a file with this path
abbrev pub part_of : List ℕ → List ℕ
part_of path = path ++ codes ".part"

-- once a draft of this name was made
abbrev pub with_draft : List ℕ → DraftsState → DraftsState
with_draft name drafts = record drafts { made = drafts.made + 1; last = Some name; is_there = true }

-- once it is removed
abbrev pub without_draft : DraftsState → DraftsState
without_draft drafts = record drafts { is_there = false }

-- A draft may be made, and take its place: there is none.
pub record MayDraft (drafts : DraftsState) : Type 0 where
  pub none : drafts.is_there ≡ false
  pub made : drafts.made + 1 < 2 ^ 64
  pub placed : drafts.placed + 1 < 2 ^ 64
  pub hindered : drafts.hindered + 1 < 2 ^ 64

-- A run may open its files, and put one into its place.
pub record MayOpen (files : FilesState) : Type 0 where
  pub opened : files.opened + 8 < 2 ^ 64
  pub drafts : MayDraft files.drafts

-- These bytes are to come of a feed: those that are known to stand there. Of a path that can't be
-- opened there is no feed.
abbrev pub HasBytesOf : Standing → Option (List ℕ) → Type 0
HasBytesOf unknown remaining = Unit {0}
HasBytesOf missing remaining = ⊥
HasBytesOf (holds bytes) remaining = remaining ≡ Some bytes

-- a feed of what stands there, of which none was taken and which has never failed
pub record IsFeedOf (standing : Standing) (feed : FeedState) : Type 0 where
  pub bytes : HasBytesOf standing feed.remaining
  pub untaken : feed.taken ≡ 0
  pub unfailed : feed.faults ≡ 0

-- as far as is known, this can't be opened, or it can
abbrev pub MayBeMissing : Standing → Type 0
MayBeMissing (holds bytes) = ⊥
MayBeMissing standing = Unit {0}

abbrev pub MayBeThere : Standing → Type 0
MayBeThere missing = ⊥
MayBeThere standing = Unit {0}

-- a draft's sink that has got nothing, and has never failed
pub record IsEmpty (draft : SinkState) : Type 0 where
  pub usable : IsTrue draft.is_open
  pub unfailed : draft.faults ≡ 0
  pub nothing : IfSome draft.contents (λ bytes. bytes ≡ [])

-- No other draft was made, and the one that was isn't there any more.
pub record IsOver (before after : DraftsState) : Type 0 where
  pub made : after.made ≡ before.made
  pub last : after.last ≡ before.last
  pub gone : after.is_there ≡ false

-- The draft has taken the place of this path, with all that its sink holds.
pub record IsPlaced (path : List ℕ) (draft : SinkState) (before after : DraftsState)
    : Type 0 where
  pub bytes : HasBytesOf (after.put path) draft.contents
  pub counted : after.placed ≡ before.placed + 1
  pub unhindered : after.hindered ≡ before.hindered
  pub over : IsOver before after

-- Something hinders a draft from being made, or from taking its place.
pub record IsHindered (before after : DraftsState) : Type 0 where
  pub counted : after.hindered ≡ before.hindered + 1
  pub unplaced : after.placed ≡ before.placed
  pub unput : after.put ≡ before.put
  pub over : IsOver before after
