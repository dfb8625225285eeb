-- Ranges of a buffer: after its front was taken, and after bytes were pulled into it.
use Rattle.pcap_reader.proofs.Common.{◌≡◌, ◌+◌, ◌-◌, ◌≤◌, ◌++◌, ℕ, List, take, drop, slice_range, sym, ap, ◌∙◌, length-take-le, arith, length, length-take, length-drop, drop-drop, drop-take, take-take, take-append-le, take-append-add}
use borrow.Rule.Slice.PartMut.{put_mid}

-- what stays
pub range_rest : (xs ys : List ℕ) (a a' e e' n : ℕ) → ys ≡ xs → a' ≡ a + n → e' ≡ e → a + n ≤ e →
    slice_range ys a' e' ≡ drop n (slice_range xs a e)
range_rest xs ys a a' e e' n same start end fits =
    let from : drop a' ys ≡ drop n (drop a xs) = ap (drop a') same ∙ ap (λ k. drop k xs) start
    ∙ sym (drop-drop n a xs) in
    ap (take (e' - a')) from ∙ ap (λ k. take k (drop n (drop a xs))) (omega arith)
    ∙ sym (drop-take n ((e - a) - n) (drop a xs)) ∙ ap (λ k. drop n (take k (drop a xs))) (omega arith)

-- the last k of the bytes taken, after n of them
pub range_lent : (xs ys : List ℕ) (a a' e n k : ℕ) → ys ≡ xs → a' ≡ a + (n + k) → a + (n + k) ≤ e →
    slice_range ys (a' - k) a' ≡ take k (drop n (slice_range xs a e))
range_lent xs ys a a' e n k same start fits =
    let left = (e - a) - n in
    let from : drop (a' - k) ys ≡ drop n (drop a xs) = ap (drop (a' - k)) same ∙ ap (λ j. drop j xs) (omega arith)
    ∙ sym (drop-drop n a xs) in
    ap (take (a' - (a' - k))) from ∙ ap (λ j. take j (drop n (drop a xs))) (omega arith)
    ∙ sym (take-take k left (drop n (drop a xs)) (omega arith))
    ∙ ap (take k) (sym (drop-take n left (drop a xs)) ∙ ap (λ j. drop n (take j (drop a xs))) (omega arith))

-- how many were taken after k
pub length-range : (xs : List ℕ) (k n : ℕ) → k + n ≤ length xs → length (take n (drop k xs)) ≡ n
length-range xs k n fits = simp (length-take, length-drop) (omega arith)

-- the front after a pull of n bytes into the part after it
pub front_pulled : (h k n : ℕ) (xs ys : List ℕ) → h ≤ length xs → n ≤ length ys → take (h + n) (put_mid h k xs ys)
    ≡ take h xs ++ take n ys
front_pulled h k n xs ys within fits = grind (arith, length-take-le, take-append-add, take-append-le)
