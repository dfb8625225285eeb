-- How the inputs of a run are opened by their paths.
use Rattle.std.specs.Prelude.{◌≡◌, ◌⊎◌, ◌+◌, ℕ, List, [], ◌∷◌, ◌++◌, length, Option, Some, None}
use Rattle.program.specs.Common.{option_map, option_to_list, FeedState, no_feed, Input, RunFault, Device, Feeds}
use Rattle.report.specs.declared.fault.Input.TheVariants as inputs
use Rattle.program.specs.Files.{FilesState, IsFeedOf, MayBeMissing, MayBeThere, Standing}

-- which input is opened, and by which path
pub record Place : Type 0 where
  pub input : Input
  pub path : List ℕ

abbrev pub place : Input → List ℕ → Place
place input path = record { input = input; path = path }

-- the paths of the inputs of a question, which may have a second input and a file of sums
pub record Places : Type 0 where
  pub claim : List ℕ
  pub second : Option Place
  pub capture : List ℕ
  pub sums : Option (List ℕ)

-- the order in which they are opened
abbrev pub order_of : Places → List Place
order_of places =
    place inputs.Claim places.claim ∷ (option_to_list places.second
    ++ (place inputs.Capture places.capture
    ∷ option_to_list (option_map (place inputs.Sums) places.sums)))

-- The first of these that can't be opened, in their order: the fault is that of its device, and
-- none behind it was opened. `opened` files were opened before, and `opened'` are now.
abbrev pub IsFirstUnopened : (List ℕ → Standing) → List Place → ℕ → ℕ → RunFault → Type 0
IsFirstUnopened standing [] opened opened' fault = ⊥
IsFirstUnopened standing (next ∷ places) opened opened' fault =
    (MayBeMissing (standing next.path) × (fault ≡ Device next.input) × (opened' ≡ opened + 1))
    ⊎ (MayBeThere (standing next.path)
    × IsFirstUnopened standing places (opened + 1) opened' fault)

-- this is a feed of the second input, if there is one
abbrev pub IsSecondOf : (List ℕ → Standing) → Option Place → FeedState → Type 0
IsSecondOf standing None feed = feed ≡ no_feed
IsSecondOf standing (Some second) feed = IsFeedOf (standing second.path) feed

-- this is a feed of the file of sums, if there is one
abbrev pub IsSumsOf : (List ℕ → Standing) → Option (List ℕ) → Option FeedState → Type 0
IsSumsOf standing None sums = sums ≡ None
IsSumsOf standing (Some path) None = ⊥
IsSumsOf standing (Some path) (Some feed) = IsFeedOf (standing path) feed

-- All were opened, each by its own path, and once.
pub record AreOpened (files : FilesState) (places : Places) (opened : ℕ) (feeds : Feeds)
    (sums : Option FeedState) : Type 0 where
  pub claim : IsFeedOf (files.standing places.claim) feeds.claim
  pub second : IsSecondOf files.standing places.second feeds.second
  pub capture : IsFeedOf (files.standing places.capture) feeds.capture
  pub sums_are : IsSumsOf files.standing places.sums sums
  pub once : opened ≡ files.opened + length (order_of places)
