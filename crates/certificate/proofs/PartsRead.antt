-- The members of an object, read one after another: what the last member of each name says.
use Rattle.std.proofs.lemmas.Int.{ints}
use Rattle.certificate.proofs.Common.{◌<◌, length, Token, read_key, next_value, read_key-shorter, value-shorter, ◌≡◌, ◌≢◌, ℕ, List, Bool, true, false, ◌&&◌, Option, Some, None, if◌then◌else◌, option_map, Result, Ok, nat_le, Ordering, Less, Equal, Greater, nat_cmp, is_eq, bytes_eq, refl, sym, ap, ◌∙◌, bytes_eq-Decides, list_any, codes, get_member-put, get_member-put_other, Data, Items, Members, no_members, member, put, object, as_array, items_len, given, asked, after, has_only, unsigned_of, CertificateFault, Shape, TooManyEntries, max_entries, entries_of, piece_of, PieceParts, entries_in, parts_of, piece_from, arith, nat_tests}
use Rattle.std.proofs.lemmas.Map.Text.{is_eq-slice_cmp}
use Rattle.std.specs.Cmp.Lexicographic.{slice_cmp}
use Rattle.std.specs.Ordering.{match_ordering}

-- what is left behind a member is shorter
pub member-shorter : (depth : ℕ) (ts s r : List Token) (k : List ℕ) → read_key ts ≡ Some (Some k, s) → (v : Data) →
    next_value depth s ≡ Some (v, r) → length r < length ts
member-shorter depth ts s r k named v is =
    omega (arith, read_key-shorter ts (Some k) s named, value-shorter depth s r v is)

-- ---- names

abbrev is_listed : List (List ℕ) → List ℕ → Bool
is_listed names name = list_any (λ listed. bytes_eq listed name) names

and_again : (a b : Bool) → a && b ≡ a && (a && b)
and_again true b = refl
and_again false b = refl

and_later : (a b c : Bool) → a && (b && c) ≡ b && (a && c)
and_later true true c = refl
and_later true false c = refl
and_later false true c = refl
and_later false false c = refl

module _ (names : List (List ℕ)) (k : List ℕ) (d : Data) where
  has_only-put_at : (o : Ordering) (l : List ℕ) (e : Data) (ms : Members) → slice_cmp nat_cmp k l ≡ o →
      has_only names (put k d ms) ≡ is_listed names k && has_only names ms →
      has_only names (match_ordering o (member k d (member l e ms)) (member l d ms) (member l e (put k d ms)))
      ≡ is_listed names k && has_only names (member l e ms)
  has_only-put_at Less l e ms is later = refl
  has_only-put_at Equal l e ms is later =
      let same : k ≡ l = (bytes_eq-Decides k l).0 (sym (is_eq-slice_cmp k l) ∙ ap is_eq is) in
      and_again (is_listed names l) (has_only names ms)
      ∙ ap (λ n. is_listed names n && (is_listed names l && has_only names ms)) (sym same)
  has_only-put_at Greater l e ms is later =
      ap (λ b. is_listed names l && b) later ∙ and_later (is_listed names l) (is_listed names k) (has_only names ms)

  pub has_only-put : (ms : Members) → has_only names (put k d ms) ≡ is_listed names k && has_only names ms
  has_only-put no_members = refl
  has_only-put (member l e ms) = has_only-put_at (slice_cmp nat_cmp k l) l e ms refl (has_only-put ms)

pub not_same : (b : Bool) (xs ys : List ℕ) → bytes_eq xs ys ≡ b → ys ≢ xs → b ≡ false
not_same true xs ys is other = absurd (other (sym ((bytes_eq-Decides xs ys).0 is)))
not_same false xs ys is other = refl

-- ---- the parts of a piece

abbrev pub made : Bool → Option ℕ → Option (Result (List (ℕ × ℕ)) CertificateFault) → PieceParts
made is_known upto entries = record { is_known = is_known; upto = upto; entries = entries }

module _ (number : ℕ) (value : Data) (found : Members) (parts : PieceParts)
    (known : parts ≡ parts_of number found) where
  pub parts_entries : (read : Option (Result (List (ℕ × ℕ)) CertificateFault)) →
      option_map (entries_in number) (as_array value) ≡ read →
      made parts.is_known parts.upto read ≡ parts_of number (put (codes "entries") value found)
  parts_entries read is =
      grind (arith, ints, nat_tests, get_member-put_other, value, found, get_member-put, known, has_only-put)

  pub parts_upto : (read : Option ℕ) → unsigned_of value ≡ read →
      made parts.is_known read parts.entries ≡ parts_of number (put (codes "upto") value found)
  parts_upto read is =
      grind (arith, ints, nat_tests, get_member-put_other, value, found, known, has_only-put, get_member-put)

  pub parts_other : (name : List ℕ) → (name ≡ codes "entries" → ⊥) → (name ≡ codes "upto" → ⊥) →
      made false parts.upto parts.entries ≡ parts_of number (put name value found)
  parts_other name no_entries no_upto =
      grind (arith, ints, nat_tests, get_member-put_other, value, found, not_same, known, has_only-put)

after_asked : {A B : Type 0} (few bad : CertificateFault) (fits : Bool) (read : Option A) (more : A → B) →
    after (asked few fits (given bad read Ok)) (λ a. Ok (more a)) ≡ asked few fits (given bad read (λ a. Ok (more a)))
after_asked few bad false read more = refl
after_asked few bad true None more = refl
after_asked few bad true (Some a) more = refl

same_piece : (number : ℕ) (ms : Members) (is_known : Bool) (upto : Option ℕ) (items : Option Items) →
    piece_from number (made is_known upto (option_map (entries_in number) items))
    ≡ (given (Shape number) (if is_known then Some ms else None) λ members.
    given (Shape number) upto λ upto.
    given (Shape number) items λ items.
    asked (TooManyEntries number) (nat_le (items_len items) max_entries) (
    given (Shape number) (entries_of items) λ entries.
    Ok (record { entries = entries; upto = upto })))
same_piece number ms false upto items = refl
same_piece number ms true None items = refl
same_piece number ms true (Some upto) None = refl
same_piece number ms true (Some upto) (Some items) =
    after_asked (TooManyEntries number) (Shape number) (nat_le (items_len items) max_entries) (entries_of items)
    (λ entries. record { entries = entries; upto = upto })

-- the piece of an object is that of its parts
pub piece_from-parts : (number : ℕ) (members : Members) →
    piece_from number (parts_of number members) ≡ piece_of number (object members)
piece_from-parts number members = grind (arith, ints, nat_tests, same_piece)
