-- The members of a claim's JSON object, each of the kind that it has to have.
--
-- Names stand in any order, and a repeated name has its last value. An integer is a whole number
-- from 0 to 2^64 - 1 without sign, fraction or exponent.
use Rattle.std.specs.Prelude.{ℕ, List, [], ◌∷◌, Option, Some, None, option_map, option_and_then, Result, Ok, map, codes}
use Rattle.serde_json.specs.Data.{Data, Items, no_items, item}
use Rattle.serde_json.specs.Find.{get, as_str, as_array}
use Rattle.json_text.specs.Member.{members_among, text_at, items_at, unsigned_at, unsigned_of}
use Rattle.claim_file.specs.declared.fault.ClaimFault.{ClaimFault}
use Rattle.claim_file.specs.declared.fault.ClaimFault.TheVariants.{Field}
use Rattle.claim_file.specs.declared.fields.Fields.{Fields}
use Rattle.claim_file.specs.declared.fields.Scalars.{Scalars}
use Rattle.json_text.specs.Step.{given}

pub record FieldsData : Type 0 where
  pub client : List ℕ
  pub servers : List (List ℕ)
  pub false_max : ℕ
  pub begin : List ℕ
  pub end : List ℕ
  pub bound_ns : ℕ
  pub drift_ppb : ℕ
  pub reading_ns : ℕ
  pub groups : Option (List (List ℕ))

-- the members from `false_max` to `reading_ns`, each a number or a text
pub record ScalarsData : Type 0 where
  pub false_max : ℕ
  pub begin : List ℕ
  pub end : List ℕ
  pub bound_ns : ℕ
  pub drift_ppb : ℕ
  pub reading_ns : ℕ

-- the names that a claim may have
abbrev pub claim_names : List (List ℕ)
claim_names =
    codes "client" ∷ codes "servers" ∷ codes "false_max" ∷ codes "from" ∷ codes "to"
    ∷ codes "bound_ns" ∷ codes "drift_ppb" ∷ codes "reading_ns" ∷ codes "groups" ∷ []

-- the elements of an array, if each is of this kind
abbrev pub all_of : {A : Type 0} → (Data → Option A) → Items → Option (List A)
all_of kind no_items = Some []
all_of kind (item value rest) =
    option_and_then (λ first. option_map (λ others. first ∷ others) (all_of kind rest)) (kind value)

-- an array of texts, of integers, of arrays of integers
abbrev pub texts_of : Items → Option (List (List ℕ))
texts_of items = all_of as_str items

abbrev pub numbers_of : Data → Option (List ℕ)
numbers_of value = option_and_then (all_of unsigned_of) (as_array value)

abbrev pub number_lists_of : Data → Option (List (List ℕ))
number_lists_of value = option_and_then (all_of numbers_of) (as_array value)

-- a member that may be absent
abbrev pub absent_or : {A : Type 0} → (Data → Option A) → Option Data → Option (Option A)
absent_or kind None = Some None
absent_or kind (Some value) = option_map Some (kind value)

-- the members by rising code: the first that is absent or of another kind is the fault, after a
-- value that is no object or has a name outside the table
abbrev pub fields_of : Data → Result FieldsData ClaimFault
fields_of value =
    given (Field 0) (members_among claim_names value) λ members.
    given (Field 1) (text_at (codes "client") value) λ client.
    given (Field 2) (option_and_then texts_of (items_at (codes "servers") value)) λ servers.
    given (Field 3) (unsigned_at (codes "false_max") value) λ false_max.
    given (Field 4) (text_at (codes "from") value) λ begin.
    given (Field 5) (text_at (codes "to") value) λ end.
    given (Field 6) (unsigned_at (codes "bound_ns") value) λ bound_ns.
    given (Field 7) (unsigned_at (codes "drift_ppb") value) λ drift_ppb.
    given (Field 8) (unsigned_at (codes "reading_ns") value) λ reading_ns.
    given (Field 9) (absent_or number_lists_of (get (codes "groups") value)) λ groups.
    Ok (record {
      client = client;
      servers = servers;
      false_max = false_max;
      begin = begin;
      end = end;
      bound_ns = bound_ns;
      drift_ppb = drift_ppb;
      reading_ns = reading_ns;
      groups = groups;
    })

-- the same of those from `false_max` to `reading_ns` alone
abbrev pub scalars_of : Data → Result ScalarsData ClaimFault
scalars_of value =
    given (Field 3) (unsigned_at (codes "false_max") value) λ false_max.
    given (Field 4) (text_at (codes "from") value) λ begin.
    given (Field 5) (text_at (codes "to") value) λ end.
    given (Field 6) (unsigned_at (codes "bound_ns") value) λ bound_ns.
    given (Field 7) (unsigned_at (codes "drift_ppb") value) λ drift_ppb.
    given (Field 8) (unsigned_at (codes "reading_ns") value) λ reading_ns.
    Ok (record {
      false_max = false_max;
      begin = begin;
      end = end;
      bound_ns = bound_ns;
      drift_ppb = drift_ppb;
      reading_ns = reading_ns;
    })

-- what the members that were read say
abbrev pub fields_data : Fields → FieldsData
fields_data f = record {
  client = f.client.now;
  servers = map (λ text. text.now) f.servers.items;
  false_max = f.false_max;
  begin = f.begin.now;
  end = f.end.now;
  bound_ns = f.bound_ns;
  drift_ppb = f.drift_ppb;
  reading_ns = f.reading_ns;
  groups = option_map (λ lists. map (λ list. list.items) lists.items) f.groups;
}

abbrev pub scalars_data : Scalars → ScalarsData
scalars_data s = record {
  false_max = s.false_max;
  begin = s.begin.now;
  end = s.end.now;
  bound_ns = s.bound_ns;
  drift_ppb = s.drift_ppb;
  reading_ns = s.reading_ns;
}
