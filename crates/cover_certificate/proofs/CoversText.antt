-- The text of a certificate by covers is that of its JSON value, and is read as it.
use Rattle.cover_certificate.proofs.Common.{◌≡◌, ℕ, List, [], ◌∷◌, map, codes, join_with_byte, comma, ◌≤◌, ◌<◌, ◌^◌, ◌++◌, Ok, Some, refl, subst, arith, append_assoc, decimal, IsUtf8, serde_json_on_literals, number_value, entry_value, piece_value, entry_text, piece_text, IsPlain, items_nesting, nesting, compact_text, parsed, parsed_compact, plain_items, plain_number, utf8_compact, CaseData, CoverCertificateData, IsFew, IsHeldCase, IsHeldCovers, case_text, case_value, covers_of, covers_text, covers_value}
use Rattle.cover_certificate.proofs.CoversBack.{covers_of-read}
use Rattle.cover_certificate.proofs.TextRead.{piece-nesting, plain_entry, plain_piece}
use Rattle.certificate.proofs.Texts.{items_text-map}
use Rattle.cover_certificate.proofs.Texts.{entry_text-value, piece_text-value}

-- the texts of two arrays, with the brackets after them
arrays_text : (first a between b : List ℕ) →
    first ++ ((a ++ 93 ∷ []) ++ (between ++ ((b ++ 93 ∷ []) ++ 125 ∷ [])))
    ≡ (((first ++ a) ++ (93 ∷ between)) ++ b) ++ (93 ∷ 125 ∷ [])
arrays_text first a between b = simp append_assoc

number_text-value : (n : ℕ) → compact_text (number_value n) ≡ decimal n
number_text-value n = refl

case_text-value : (case : CaseData) → compact_text (case_value case) ≡ case_text case
unfolding serde_json_on_literals
case_text-value case =
    rw (
      items_text-map number_value decimal number_text-value case.groups,
      items_text-map piece_value piece_text piece_text-value case.pieces,
    )
    (arrays_text (codes "{\"groups\":[") (join_with_byte comma (map decimal case.groups)) (codes ",\"pieces\":[")
    (join_with_byte comma (map piece_text case.pieces)))

pub covers_text-value : (certificate : CoverCertificateData) →
    compact_text (covers_value certificate) ≡ covers_text certificate
unfolding serde_json_on_literals
covers_text-value certificate =
    rw (
      items_text-map case_value case_text case_text-value certificate.cases,
      items_text-map entry_value entry_text entry_text-value certificate.conflicts,
    )
    (arrays_text (codes "{\"cases\":[") (join_with_byte comma (map case_text certificate.cases))
    (codes ",\"conflicts\":[") (join_with_byte comma (map entry_text certificate.conflicts)))

plain_group : (n : ℕ) → n < 2 ^ 8 → IsPlain (number_value n)
plain_group n small = plain_number n (omega (arith, small))

plain_case : (case : CaseData) → IsHeldCase case → IsPlain (case_value case)
unfolding serde_json_on_literals
plain_case case held =
    let groups = plain_items number_value case.groups (λ k d less. plain_group _ (held.named k d less)) in
    let pieces = plain_items piece_value case.pieces (λ k d less. plain_piece _ (held.pieces k d less)) in
    (refl, (refl, groups, (refl, pieces, tt)))

case-nesting : (case : CaseData) → nesting (case_value case) ≤ 5
case-nesting case =
    let groups = items_nesting number_value 0 (λ n. omega arith) case.groups in
    let pieces = items_nesting piece_value 3 piece-nesting case.pieces in
    omega (arith, groups, pieces)

module _ (certificate : CoverCertificateData) (held : IsHeldCovers certificate) where
  plain : IsPlain (covers_value certificate)
  unfolding serde_json_on_literals
  plain =
      let cases = plain_items case_value certificate.cases (λ k d less. plain_case _ (held.cases k d less)) in
      let conflicts = plain_items entry_value certificate.conflicts
      (λ k d less. plain_entry _ (held.conflicts k d less))
      in (refl, (refl, cases, (refl, conflicts, tt)))

  shallow : nesting (covers_value certificate) ≤ 127
  shallow =
      let cases = items_nesting case_value 5 case-nesting certificate.cases in
      let conflicts = items_nesting entry_value 1 (λ e. omega arith) certificate.conflicts in
      omega (arith, cases, conflicts)

  pub utf8_covers : IsUtf8 (covers_text certificate)
  utf8_covers = subst IsUtf8 (covers_text-value certificate) (utf8_compact (covers_value certificate) plain)

  -- what was written is read again
  pub covers_of-text : IsFew certificate → covers_of (covers_text certificate) ≡ Ok certificate
  covers_of-text few =
      let read : parsed (covers_text certificate) ≡ Some (covers_value certificate) =
      rw (← covers_text-value certificate) (parsed_compact (covers_value certificate) plain shallow) in
      covers_of-read (covers_text certificate) certificate read few held
