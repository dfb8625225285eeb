-- The text of a certificate is UTF-8, and read as JSON it is the certificate's value.
use Rattle.certificate.proofs.Common.{◌≡◌, ℕ, ◌≤◌, ◌++◌, Some, refl, subst, arith, All, IsUtf8, IsUtf8-append, serde_json_on_literals, PieceData, CertificateData, IsHeld, NamesSamples, entry_value, piece_value, certificate_value, certificate_text, IsPlain, items_nesting, nesting, compact_text, parsed, parsed_compact, parsed_tokens, plain_items, plain_number, utf8_ascii, utf8_compact, tokens}
use Rattle.certificate.proofs.LineFeed.{line_feed, tokens-line_feed}
use Rattle.certificate.proofs.Texts.{certificate_text-value}

plain_entry : (entry : ℕ × ℕ) → NamesSamples entry → IsPlain (entry_value entry)
plain_entry (low, high) named =
    (plain_number low (omega (arith, named.low)), (plain_number high (omega (arith, named.high)), tt))

plain_piece : (piece : PieceData) → IsHeld piece → IsPlain (piece_value piece)
unfolding serde_json_on_literals
plain_piece piece held =
    let entries = plain_items entry_value piece.entries (λ k d less. plain_entry _ (held.readable.named k d less)) in
    (refl, (refl, entries, (refl, plain_number piece.upto held.end, tt)))

-- it nests five deep
piece-nesting : (piece : PieceData) → nesting (piece_value piece) ≤ 3
piece-nesting piece = omega (arith, items_nesting entry_value 1 (λ e. omega arith) piece.entries)

module _ (certificate : CertificateData) (held : All IsHeld certificate.pieces) where
  plain : IsPlain (certificate_value certificate)
  unfolding serde_json_on_literals
  plain = (refl, (refl, plain_items piece_value certificate.pieces (λ k d less. plain_piece _ (held k d less)), tt))

  shallow : nesting (certificate_value certificate) ≤ 127
  shallow = omega (arith, items_nesting piece_value 3 piece-nesting certificate.pieces)

  pub utf8_certificate : IsUtf8 (certificate_text certificate)
  utf8_certificate =
      subst IsUtf8 (certificate_text-value certificate) (utf8_compact (certificate_value certificate) plain)

  pub parsed_text : parsed (certificate_text certificate) ≡ Some (certificate_value certificate)
  parsed_text = rw (← certificate_text-value certificate) (parsed_compact (certificate_value certificate) plain shallow)

  -- the same with a line feed after it
  pub parsed_line : parsed (certificate_text certificate ++ line_feed) ≡ Some (certificate_value certificate)
  parsed_line =
      parsed_tokens (certificate_value certificate) (certificate_text certificate ++ line_feed) plain shallow
      (IsUtf8-append (certificate_text certificate) line_feed utf8_certificate (utf8_ascii line_feed refl))
      (subst (λ text. tokens (text ++ line_feed) ≡ tokens (compact_text (certificate_value certificate)))
      (certificate_text-value certificate) (tokens-line_feed (certificate_value certificate) plain))
