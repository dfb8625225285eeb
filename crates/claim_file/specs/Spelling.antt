-- The plain spelling of a claim: compact JSON, with the names in the order of their bytes.
use Rattle.std.specs.Prelude.{◌≡◌, ◌≢◌, ℕ, ◌<◌, ◌≤◌, ⊤, List, [], ◌∷◌, length, map, codes, Option, Some, None, All, AllPairs}
use Rattle.std.specs.List.{concat}
use Rattle.std.specs.Net.Grammar.{IsDotted}
use Rattle.serde_json.specs.Data.{Data, Members, unsigned, number, string, array, object, member, no_members}
use Rattle.serde_json.specs.View.{items_of}
use Rattle.serde_json.specs.Written.{compact_text}
use Rattle.claim_file.specs.Claim.{max_servers, max_false, max_bound_ns, max_drift_ppb, max_reading_ns}
use Rattle.claim_file.specs.Fields.{FieldsData}
use Rattle.claim_file.specs.Group.{times_listed}
use Rattle.claim_file.specs.Reading.{NamedData}
use Rattle.claim_file.specs.Time.{IsTime}

abbrev pub number_value : ℕ → Data
number_value n = number (unsigned n)

abbrev pub numbers_value : List ℕ → Data
numbers_value numbers = array (items_of (map number_value numbers))

-- the groups, if they are listed, and the members behind them
abbrev pub groups_then : Option (List (List ℕ)) → Members → Members
groups_then None rest = rest
groups_then (Some listed) rest =
    member (codes "groups") (array (items_of (map numbers_value listed))) rest

-- the members of a claim as one JSON object
abbrev pub claim_value : FieldsData → Data
claim_value f =
    object (member (codes "bound_ns") (number_value f.bound_ns)
    (member (codes "client") (string f.client)
    (member (codes "drift_ppb") (number_value f.drift_ppb)
    (member (codes "false_max") (number_value f.false_max)
    (member (codes "from") (string f.begin)
    (groups_then f.groups
    (member (codes "reading_ns") (number_value f.reading_ns)
    (member (codes "servers") (array (items_of (map string f.servers)))
    (member (codes "to") (string f.end) no_members)))))))))

abbrev pub claim_text : FieldsData → List ℕ
claim_text f = compact_text (claim_value f)

-- each text writes the address beside it
abbrev pub AreDotted : List (List ℕ) → List (List ℕ) → Type 0
AreDotted [] [] = ⊤
AreDotted [] (address ∷ addresses) = ⊥
AreDotted (text ∷ texts) [] = ⊥
AreDotted (text ∷ texts) (address ∷ addresses) = IsDotted text address × AreDotted texts addresses

-- The texts write these addresses and these Unix seconds.
pub record Names (f : FieldsData) (named : NamedData) : Type 0 where
  pub client : IsDotted f.client named.client
  pub servers : AreDotted f.servers named.servers
  pub begin : IsTime f.begin named.first
  pub end : IsTime f.end named.last

-- Each of n servers stands in one group, nothing else does, and none is empty. Servers of which no
-- groups are listed are groups of their own.
abbrev pub AreGrouped : ℕ → Option (List (List ℕ)) → Type 0
AreGrouped n None = ⊤
AreGrouped n (Some listed) =
    All (λ group. 0 < length group) listed × All (λ server. server < n) (concat listed)
    × ((server : ℕ) → server < n → times_listed server (concat listed) ≡ 1)

-- The limits of a claim.
pub record IsWithinLimits (f : FieldsData) (named : NamedData) : Type 0 where
  pub some_server : 1 ≤ length named.servers
  pub few_servers : length named.servers ≤ max_servers
  pub addresses_differ : AllPairs (λ a b. a ≢ b) named.servers
  pub client_is_no_server : All (λ a. a ≢ named.client) named.servers
  pub few_false : f.false_max ≤ max_false
  pub forward : named.first ≤ named.last
  pub bound : f.bound_ns ≤ max_bound_ns
  pub drift : f.drift_ppb ≤ max_drift_ppb
  pub reading : f.reading_ns ≤ max_reading_ns
  pub grouped : AreGrouped (length named.servers) f.groups
