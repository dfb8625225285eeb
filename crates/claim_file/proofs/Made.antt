-- What a claim that was read is made of, and so how its bound and its allowance became ticks.
use Rattle.claim_file.proofs.Common.{◌≡◌, pos, true, List, ◌∷◌, Some, Ok, ℕ, length, refl, subst, after_by, asked_by, given_by, ticks_down, ticks_up, parsed, are_different, ClaimData, FieldsData, fields_of, groups_of, NamedData, named_of, is_in_range, claim_with, claim_from, claim_of}

-- the members, addresses, times and groups of a claim
pub record IsMade (claim : ClaimData) : Type 0 where
  pub fields : FieldsData
  pub named : NamedData
  pub groups : List ℕ
  pub names : named_of fields ≡ Ok named
  pub ranges : is_in_range fields named ≡ true
  pub differ : are_different (named.client ∷ named.servers) ≡ true
  pub grouped : groups_of (length named.servers) fields.groups ≡ Some groups
  pub is : claim_with fields named groups ≡ claim

pub fields_made : (f : FieldsData) (claim : ClaimData) → claim_from f ≡ Ok claim → IsMade claim
fields_made f claim e =
    let (named, names, d) = after_by (named_of f) _ e in
    let (ranges, a) = asked_by _ (is_in_range f named) _ d in
    let (differ, b) = asked_by _ (are_different (named.client ∷ named.servers)) _ a in
    let (groups, grouped, last) = given_by _ (groups_of (length named.servers) f.groups) _ b in
    record {
      fields = f;
      named = named;
      groups = groups;
      names = names;
      ranges = ranges;
      differ = differ;
      grouped = grouped;
      is = cc;
    }

pub claim_made : (bytes : List ℕ) (claim : ClaimData) → claim_of bytes ≡ Ok claim → IsMade claim
claim_made bytes claim e =
    let (value, text, d) = given_by _ (parsed bytes) _ e in
    let (fields, members, last) = after_by (fields_of value) _ d in
    fields_made fields claim last

pub bound_made : (bytes : List ℕ) (claim : ClaimData) → claim_of bytes ≡ Ok claim →
    claim.bound ≡ pos (ticks_down claim.bound_ns)
bound_made bytes claim e =
    subst (λ (c : ClaimData). c.bound ≡ pos (ticks_down c.bound_ns)) (claim_made bytes claim e).is refl

pub reading_made : (bytes : List ℕ) (claim : ClaimData) → claim_of bytes ≡ Ok claim →
    claim.reading ≡ pos (ticks_up claim.reading_ns)
reading_made bytes claim e =
    subst (λ (c : ClaimData). c.reading ≡ pos (ticks_up c.reading_ns)) (claim_made bytes claim e).is refl
