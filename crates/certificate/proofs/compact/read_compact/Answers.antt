use Rattle.certificate.proofs.Common.{◌≡◌, ◌++◌, ◌≤◌, length, map, ap, ◌∙◌, sym, subst, append_assoc, length-map, join_with_byte, All, IfSome, codes, IsHeld, data_of, piece_data, max_pieces, IsEnding, comma, piece_text}
use Rattle.certificate.proofs.CompactRead.{certificate_of-compact}
use Rattle.certificate.proofs.compact.read_compact.Goals as goal

pub returns-then-is_ending-clause-exact : goal.returns-then-is_ending-clause-exact
returns-then-is_ending-clause-exact c =
    let rest = c.pieces.new.scanner in
    let items = c.in-Some-2.pieces.items in
    let pieces = join_with_byte comma (map piece_text (map piece_data items)) in
    let some = c.in-Some-2.is in
    let inner : c.text.new.self ≡ pieces ++ rest =
    subst (λ o. IfSome o (λ found. c.text.new.self
    ≡ join_with_byte comma (map piece_text (map piece_data found.items)) ++ rest)) some c.in_ok-pieces.ensures.text in
    let held : All IsHeld (map piece_data items) =
    subst (λ o. IfSome o (λ found. All IsHeld (map piece_data found.items))) some c.in_ok-pieces.ensures.held in
    let few : length items ≤ max_pieces =
    subst (λ o. IfSome o (λ found. length found.items ≤ max_pieces)) some c.in_ok-pieces.ensures.few in
    let opened : c.args.text.now ≡ codes "{\"pieces\":[" ++ c.text.new.self =
    sym c.new-scanner.ensures ∙ c.in-Some.ensures in
    let ending : IsEnding rest = subst IsEnding c.rest.ensures (c.is_ending.ensures c.if-is_ending.true) in
    certificate_of-compact (data_of (record { pieces = c.in-Some-2.pieces }))
    (rw (length-map items piece_data) few) held c.args.text.now rest
    (opened ∙ ap (λ l. codes "{\"pieces\":[" ++ l) inner ∙ sym (append_assoc (codes "{\"pieces\":[") pieces rest))
    ending
