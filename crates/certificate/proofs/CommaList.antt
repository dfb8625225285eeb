-- Elements with commas between them, one more at a time.
use Rattle.certificate.proofs.Common.{◌≡◌, ℕ, suc, ◌+◌, ◌<◌, List, [], ◌∷◌, ◌++◌, length, map, take, get_or, refl, sym, ap, ◌∙◌, arith, append_assoc, length-append, lt-ltb, take_more, map-append, length-map, length-take-le, join_with_byte, comma, comma_before}

comma_later : (index : ℕ) → comma_before (suc index) ≡ comma ∷ []
comma_later index = rw (lt-ltb 0 (suc index) (omega arith)) refl

joined_push : (parts : List (List ℕ)) (part : List ℕ) →
    join_with_byte comma (parts ++ part ∷ []) ≡ join_with_byte comma parts ++ (comma_before (length parts) ++ part)
joined_push [] part = refl
joined_push (first ∷ []) part = ap (λ t. first ++ (t ++ part)) (sym (comma_later 0))
joined_push (first ∷ second ∷ rest) part =
    ap (λ t. first ++ comma ∷ t) (joined_push (second ∷ rest) part)
    ∙ ap (λ t. first ++ comma ∷ (join_with_byte comma (second ∷ rest) ++ (t ++ part)))
    (comma_later (length rest) ∙ sym (comma_later (suc (length rest))))
    ∙ sym (append_assoc first (comma ∷ join_with_byte comma (second ∷ rest))
    (comma_before (length (first ∷ second ∷ rest)) ++ part))

-- the text of the elements up to the one at this index
pub joined_more : {X : Type 0} (text : X → List ℕ) (xs : List X) (index : ℕ) (d : X) → index < length xs →
    join_with_byte comma (map text (take (index + 1) xs))
    ≡ join_with_byte comma (map text (take index xs)) ++ (comma_before index ++ text (get_or xs index d))
joined_more text xs index d within =
    let few = take index xs in
    let count : length (map text few) ≡ index = length-map few text ∙ length-take-le index xs (omega arith) in
    ap (λ l. join_with_byte comma (map text l)) (take_more xs index d within)
    ∙ ap (join_with_byte comma) (map-append text few (get_or xs index d ∷ []))
    ∙ joined_push (map text few) (text (get_or xs index d))
    ∙ ap (λ n. join_with_byte comma (map text few) ++ (comma_before n ++ text (get_or xs index d))) count

-- the elements that were read of a text, as many as the index, and what follows them
pub record IsReadUpTo {X : Type 0} (text : X → List ℕ) (whole rest : List ℕ) (xs : List X) (index : ℕ) : Type 0 where
  pub read : whole ≡ join_with_byte comma (map text xs) ++ rest
  pub counted : length xs ≡ index

-- one more is read, after its comma
pub joined_read : {X : Type 0} (text : X → List ℕ) {whole rest : List ℕ} {xs : List X} {index : ℕ} (x : X)
    (more : List ℕ) → IsReadUpTo text whole rest xs index → rest ≡ comma_before index ++ text x ++ more →
    IsReadUpTo text whole more (xs ++ x ∷ []) (index + 1)
joined_read text {whole} {rest} {xs} {index} x more before next = record {
  read = before.read ∙ ap (λ l. join_with_byte comma (map text xs) ++ l) next
      ∙ rw (map-append text xs (x ∷ []), joined_push (map text xs) (text x), length-map xs text, before.counted)
      (simp append_assoc);
  counted = length-append xs (x ∷ []) ∙ ap (λ n. n + 1) before.counted;
}
