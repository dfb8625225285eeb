-- The header of a file: the bytes that spell it are read as its format, what is read is spelled by its bytes, and
-- which fault is the first.
use Rattle.std.proofs.lemmas.Grind.{common_steps}
use Rattle.std.proofs.lemmas.Bool.Decides.{nat_tests}
use Rattle.std.proofs.lemmas.Int.{ints}
use Rattle.pcap_reader.proofs.Common.{◌≡◌, ◌<◌, ◌≤◌, ℕ, List, ◌++◌, length, take, drop, Option, Some, None, Result, Ok, Err, refl, sym, ap, subst, ◌∙◌, arith, inl, inr, append_assoc, length-append, length-take, length-drop, cases_lt, cases_eq, lt-ltb, le-ltb, eq-eqb, ne_eqb, take-append-drop, Unit as TimeUnit, Micro, Nano, CaptureFault, TornHeader, Magic, Version, Link, Endian, Big, Little, Format, IsBytes, HasMagic, HasVersion, HasLink, HasHeaderFault, IsHeader, magic_of, number_in, spelled, format_of, version_and_link, header_of, rules}
use Rattle.pcap_reader.proofs.Parts.{bytes_after, front, after, further, six_parts, taken_24}
use Rattle.pcap_reader.proofs.Spelling.{number_in-spelled, length-spelled, spelled-number_in_4}

-- the four magic numbers differ, whatever follows
pub format_of-magic : (order : Endian) (unit : TimeUnit) (rest : List ℕ) →
    format_of (spelled order 4 (magic_of unit) ++ rest) ≡ Some (record { order = order; unit = unit })
format_of-magic Big Micro rest = refl
format_of-magic Big Nano rest = refl
format_of-magic Little Micro rest = refl
format_of-magic Little Nano rest = refl

-- a format is found by its magic number, and none where there is none
abbrev HasMagicNumber : List ℕ → Option Format → Type 0
HasMagicNumber bytes None = Unit {0}
HasMagicNumber bytes (Some f) = number_in f.order 4 bytes ≡ magic_of f.unit

format_number : (bytes : List ℕ) → HasMagicNumber bytes (format_of bytes)
format_number bytes = grind (arith, ints, nat_tests)

-- the magic number, the version and the link type, as bytes and as numbers
pub format_magic : (bytes : List ℕ) (f : Format) → IsBytes bytes → 4 ≤ length bytes → format_of bytes ≡ Some f →
    HasMagic f bytes
format_magic bytes f are_bytes long h = grind (arith, format_number, spelled-number_in_4)

pub magic_format : (bytes : List ℕ) (f : Format) → HasMagic f bytes → format_of bytes ≡ Some f
magic_format bytes f h = grind (arith, take-append-drop, format_of-magic)

-- the numbers of a version and a link type
abbrev major_in : Format → List ℕ → ℕ
major_in f bytes = number_in f.order 2 (drop 4 bytes)

abbrev minor_in : Format → List ℕ → ℕ
minor_in f bytes = number_in f.order 2 (drop 6 bytes)

abbrev link_in : Format → List ℕ → ℕ
link_in f bytes = number_in f.order 4 (drop 20 bytes)

has_version : (bytes : List ℕ) (f : Format) → IsBytes bytes → 24 ≤ length bytes → major_in f bytes ≡ 2 →
    minor_in f bytes ≡ 4 → HasVersion f bytes
has_version bytes f are_bytes long major minor = search rules

version_numbers : (bytes : List ℕ) (f : Format) → HasVersion f bytes → (major_in f bytes ≡ 2) × (minor_in f bytes ≡ 4)
version_numbers bytes f h = grind (arith, take-append-drop, append_assoc, further, length-spelled, number_in-spelled)

has_link : (bytes : List ℕ) (f : Format) → IsBytes bytes → 24 ≤ length bytes → link_in f bytes ≡ 1 → HasLink f bytes
has_link bytes f are_bytes long h =
    sym (spelled-number_in_4 f.order (drop 20 bytes) (bytes_after bytes 20 are_bytes)
    (simp length-drop (omega arith))) ∙ ap (spelled f.order 4) h

link_number : (bytes : List ℕ) (f : Format) → HasLink f bytes → link_in f bytes ≡ 1
link_number bytes f h = grind (arith, ints, nat_tests, common_steps)

-- what is read of a version and a link type
version_fine : (bytes : List ℕ) (f : Format) → major_in f bytes ≡ 2 → minor_in f bytes ≡ 4 → link_in f bytes ≡ 1 →
    version_and_link f bytes ≡ Ok f
version_fine bytes f major minor link = rw (eq-eqb _ _ major, eq-eqb _ _ minor, eq-eqb _ _ link) refl

major_wrong : (bytes : List ℕ) (f : Format) → ¬ (major_in f bytes ≡ 2) → version_and_link f bytes ≡ Err Version
major_wrong bytes f major = rw (ne_eqb _ _ major) refl

minor_wrong : (bytes : List ℕ) (f : Format) → major_in f bytes ≡ 2 → ¬ (minor_in f bytes ≡ 4) →
    version_and_link f bytes ≡ Err Version
minor_wrong bytes f major minor = rw (eq-eqb _ _ major, ne_eqb _ _ minor) refl

link_wrong : (bytes : List ℕ) (f : Format) → major_in f bytes ≡ 2 → minor_in f bytes ≡ 4 → ¬ (link_in f bytes ≡ 1) →
    version_and_link f bytes ≡ Err Link
link_wrong bytes f major minor link = rw (eq-eqb _ _ major, eq-eqb _ _ minor, ne_eqb _ _ link) refl

version_wrong : (bytes : List ℕ) (f : Format) → IsBytes bytes → 24 ≤ length bytes → ¬ HasVersion f bytes →
    version_and_link f bytes ≡ Err Version
version_wrong bytes f are_bytes long wrong = grind (arith, cases_eq, major_wrong, minor_wrong, has_version)

-- the header, test by test
pub header_short : (bytes : List ℕ) → length bytes < 24 → header_of bytes ≡ Err TornHeader
unfolding header_of
header_short bytes short = rw (lt-ltb (length bytes) 24 short) refl

header_no_format : (bytes : List ℕ) → 24 ≤ length bytes → format_of bytes ≡ None → header_of bytes ≡ Err Magic
unfolding header_of
header_no_format bytes long h = rw (le-ltb (length bytes) 24 long, h) refl

header_format : (bytes : List ℕ) (f : Format) → 24 ≤ length bytes → format_of bytes ≡ Some f →
    header_of bytes ≡ version_and_link f bytes
unfolding header_of
header_format bytes f long h = rw (le-ltb (length bytes) 24 long, h) refl

-- a lawful header is read
pub spelled_header : (bytes header rest : List ℕ) (f : Format) → IsHeader f header → bytes ≡ header ++ rest →
    (header_of bytes ≡ Ok f) × (drop 24 bytes ≡ rest)
spelled_header bytes header rest f h e =
    let at_0 = e ∙ ap (λ xs. xs ++ rest) h.joined ∙ six_parts (spelled f.order 4 (magic_of f.unit))
    (spelled f.order 2 2) (spelled f.order 2 4) h.ignored h.snapshot (spelled f.order 4 1) rest in
    let at_4 = after bytes _ _ 4 at_0 (length-spelled f.order 4 (magic_of f.unit)) in
    let at_6 = further bytes _ _ 4 2 at_4 (length-spelled f.order 2 2) in
    let at_8 = further bytes _ _ 6 2 at_6 (length-spelled f.order 2 4) in
    let at_16 = further bytes _ _ 8 8 at_8 h.ignored_length in
    let at_20 = further bytes _ _ 16 4 at_16 h.snapshot_length in
    let at_24 = further bytes _ _ 20 4 at_20 (length-spelled f.order 4 1) in
    let found = ap format_of at_0 ∙ format_of-magic f.order f.unit _ in
    let major = ap (number_in f.order 2) at_4 ∙ number_in-spelled f.order 2 2 _ (omega arith) in
    let minor = ap (number_in f.order 2) at_6 ∙ number_in-spelled f.order 2 4 _ (omega arith) in
    let link = ap (number_in f.order 4) at_20 ∙ number_in-spelled f.order 4 1 _ (omega arith) in
    let magic_length = length-spelled f.order 4 (magic_of f.unit) in
    let major_length = length-spelled f.order 2 2 in
    let minor_length = length-spelled f.order 2 4 in
    let link_length = length-spelled f.order 4 1 in
    let ignored_length = h.ignored_length in
    let snapshot_length = h.snapshot_length in
    let long : 24 ≤ length bytes = rw at_0 (simp length-append (omega arith)) in
    (header_format bytes f long found ∙ version_fine bytes f major minor link, at_24)

-- what is read is a lawful header
pub record IsHeaderRead (bytes : List ℕ) (f : Format) : Type 0 where
  pub long : 24 ≤ length bytes
  pub magic : HasMagic f bytes
  pub version : HasVersion f bytes
  pub link : HasLink f bytes

-- four bytes are two and two
two_and_two : (bytes a b : List ℕ) → take 4 (drop 4 bytes) ≡ a ++ b → length a ≡ 2 → length b ≡ 2 →
    (take 2 (drop 4 bytes) ≡ a) × (take 2 (drop 6 bytes) ≡ b)
two_and_two bytes a b e ha hb =
    let at_4 : drop 4 bytes ≡ a ++ (b ++ drop 4 (drop 4 bytes)) =
    sym (take-append-drop 4 (drop 4 bytes)) ∙ ap (λ xs. xs ++ drop 4 (drop 4 bytes)) e
    ∙ append_assoc a b (drop 4 (drop 4 bytes)) in
    (front (drop 4 bytes) a _ 2 at_4 ha, front (drop 6 bytes) b _ 2 (further bytes a _ 4 2 at_4 ha) hb)

pub header_read : (bytes : List ℕ) (f : Format) → IsHeaderRead bytes f → IsHeader f (take 24 bytes)
header_read bytes f h =
    let long = h.long in
    let version = two_and_two bytes (spelled f.order 2 2) (spelled f.order 2 4) h.version (length-spelled f.order 2 2)
    (length-spelled f.order 2 4) in
    let magic : take 4 bytes ≡ spelled f.order 4 (magic_of f.unit) = h.magic in
    let link : take 4 (drop 20 bytes) ≡ spelled f.order 4 1 = h.link in
    record {
      ignored = take 8 (drop 8 bytes);
      snapshot = take 4 (drop 16 bytes);
      ignored_length = simp (length-take, length-drop) (omega arith);
      snapshot_length = simp (length-take, length-drop) (omega arith);
      joined = rw (← magic, ← version.0, ← version.1, ← link) (taken_24 bytes);
    }

-- Whether a header is read, and its first fault where not.
abbrev IsAnswered : List ℕ → Result Format CaptureFault → Type 0
IsAnswered bytes (Ok f) = IsHeaderRead bytes f
IsAnswered bytes (Err e) = HasHeaderFault bytes e

answered_long : (bytes : List ℕ) (o : Option Format) → format_of bytes ≡ o → IsBytes bytes → 24 ≤ length bytes →
    IsAnswered bytes (header_of bytes)
answered_long bytes None h are_bytes long = grind (arith, magic_format, header_no_format)
answered_long bytes (Some f) h are_bytes long =
    let magic = format_magic bytes f are_bytes (omega arith) h in
    let found = header_format bytes f long h in
    elim (cases_eq (major_in f bytes) 2) [
      | inr d ↦ subst (IsAnswered bytes) (sym (found ∙ major_wrong bytes f d))
          (long, (f, (magic, λ v. d (version_numbers bytes f v).0)))
      | inl major ↦ elim (cases_eq (minor_in f bytes) 4) [
        | inr d ↦ subst (IsAnswered bytes) (sym (found ∙ minor_wrong bytes f major d))
            (long, (f, (magic, λ v. d (version_numbers bytes f v).1)))
        | inl minor ↦
            let version = has_version bytes f are_bytes long major minor in
            elim (cases_eq (link_in f bytes) 1) [
              | inr d ↦ subst (IsAnswered bytes) (sym (found ∙ link_wrong bytes f major minor d))
                  (long, (f, (magic, version, λ l. d (link_number bytes f l))))
              | inl link ↦ subst (IsAnswered bytes) (sym (found ∙ version_fine bytes f major minor link))
                  (record {
                    long = long;
                    magic = magic;
                    version = version;
                    link = has_link bytes f are_bytes long link;
                  })
            ]
      ]
    ]

pub header_answered : (bytes : List ℕ) → IsBytes bytes → IsAnswered bytes (header_of bytes)
header_answered bytes are_bytes = grind (arith, cases_lt, header_short, answered_long)

pub header_is_read : (bytes : List ℕ) (f : Format) → IsBytes bytes → header_of bytes ≡ Ok f → IsHeaderRead bytes f
header_is_read bytes f are_bytes h = subst (IsAnswered bytes) h (header_answered bytes are_bytes)

pub header_has_fault : (bytes : List ℕ) (e : CaptureFault) → IsBytes bytes → header_of bytes ≡ Err e →
    HasHeaderFault bytes e
header_has_fault bytes e are_bytes h = subst (IsAnswered bytes) h (header_answered bytes are_bytes)

no_magic : (bytes : List ℕ) (o : Option Format) → format_of bytes ≡ o → IsBytes bytes → 24 ≤ length bytes →
    ((f : Format) → ¬ HasMagic f bytes) → header_of bytes ≡ Err Magic
no_magic bytes None h are_bytes long none = header_no_format bytes long h
no_magic bytes (Some f) h are_bytes long none = absurd (none f (format_magic bytes f are_bytes (omega arith) h))

pub header_fault_read : (bytes : List ℕ) (e : CaptureFault) → IsBytes bytes → HasHeaderFault bytes e →
    header_of bytes ≡ Err e
header_fault_read bytes TornHeader are_bytes h = header_short bytes h
header_fault_read bytes Magic are_bytes h = no_magic bytes (format_of bytes) refl are_bytes h.0 h.1
header_fault_read bytes Version are_bytes h =
    let f = h.1.0 in
    header_format bytes f h.0 (magic_format bytes f h.1.1.0) ∙ version_wrong bytes f are_bytes h.0 h.1.1.1
header_fault_read bytes Link are_bytes h =
    grind (arith, version_numbers bytes (h.1.0) h.1.1.1, header_format, magic_format, has_link)
header_fault_read bytes e are_bytes h = absurd h
