-- What the text of a certificate says, with or without a line feed after it.
use Rattle.certificate.proofs.Common.{◌≡◌, inl, inr, ℕ, ◌≤◌, List, ◌++◌, length, map, Ok, refl, ap, ◌∙◌, append_assoc, join_with_byte, All, codes, CertificateData, IsHeld, max_pieces, IsEnding, certificate_of, comma, piece_text, certificate_text}
use Rattle.certificate.proofs.LineFeed.{line_feed}
use Rattle.certificate.proofs.ReadBack.{certificate_of-read}
use Rattle.certificate.proofs.TextRead.{parsed_text, parsed_line}

module _ (certificate : CertificateData) (few : length certificate.pieces ≤ max_pieces)
    (held : All IsHeld certificate.pieces) where
  pub certificate_of-text : certificate_of (certificate_text certificate) ≡ Ok certificate
  certificate_of-text = certificate_of-read _ certificate (parsed_text certificate held) few held

  certificate_of-line : certificate_of (certificate_text certificate ++ line_feed) ≡ Ok certificate
  certificate_of-line = certificate_of-read _ certificate (parsed_line certificate held) few held

  -- what was read up to its end
  pub certificate_of-compact : (bytes rest : List ℕ) →
      bytes ≡ codes "{\"pieces\":[" ++ join_with_byte comma (map piece_text certificate.pieces) ++ rest →
      IsEnding rest → certificate_of bytes ≡ Ok certificate
  certificate_of-compact bytes rest is (inl plain) = ap certificate_of (is ∙ rw plain refl) ∙ certificate_of-text
  certificate_of-compact bytes rest is (inr line) =
      ap certificate_of (is ∙ rw line (simp append_assoc)) ∙ certificate_of-line
