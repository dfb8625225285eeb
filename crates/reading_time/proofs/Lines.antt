-- The lines of a text, read one by one.
use Rattle.reading_time.proofs.Common.{◌≡◌, ℕ, suc, ◌+◌, ◌<◌, ◌==◌, ◌++◌, Bool, true, false, List, [], ◌∷◌, length, Some, None, Result, Ok, Err, nat_lt, if◌then◌else◌, refl, sym, ap, ◌∙◌, arith, nat_tests, append-nil, append_assoc, length-append, eqb-true, ReadingData, TimesFault, Time, TooMany, first_line, is_no_feed, lines_from, most_readings, prefix_len, read_before, readings_from, reading_of, rest_of}

-- the first line, and what stands behind it
pub lines_cut : (front text : List ℕ) → 0 < length front + length text
    → lines_from front text ≡ (front ++ first_line text) ∷ lines_from [] (rest_of text)
lines_cut [] [] some = absurd (omega arith)
lines_cut (byte ∷ front) [] some = ap (λ line. line ∷ []) (sym (append-nil (byte ∷ front)))
lines_cut front (byte ∷ text) some =
    at (lines_cut (front ++ byte ∷ []) text (omega (arith, length-append front (byte ∷ [])))) (byte == 10) refl
  where
    at : lines_from (front ++ byte ∷ []) text
        ≡ ((front ++ byte ∷ []) ++ first_line text) ∷ lines_from [] (rest_of text)
        → (feed : Bool) → (byte == 10) ≡ feed
        → lines_from front (byte ∷ text)
        ≡ (front ++ first_line (byte ∷ text)) ∷ lines_from [] (rest_of (byte ∷ text))
    at more true is = rw is (ap (λ line. line ∷ lines_from [] text) (sym (append-nil front)))
    at more false is =
        let n = prefix_len is_no_feed text in
        let e : 1 + n ≡ suc n = omega arith in
        rw (is, e) (more
        ∙ ap (λ line. line ∷ lines_from [] (rest_of text)) (append_assoc front (byte ∷ []) (first_line text)))

-- readings that were read, before what the other lines say
abbrev pub after_readings : List ReadingData → Result (List ReadingData) TimesFault →
    Result (List ReadingData) TimesFault
after_readings readings (Ok more) = Ok (readings ++ more)
after_readings readings (Err fault) = Err fault

-- the text that is left, when so many lines were read
abbrev pub left_at : ℕ → List ℕ → Result (List ReadingData) TimesFault
left_at done rest = readings_from (done + 1) (lines_from [] rest)

pub nothing_left : (done : ℕ) (rest : List ℕ) (readings : List ReadingData) → (length rest == 0) ≡ true
    → after_readings readings (left_at done rest) ≡ Ok readings
nothing_left done [] readings none = ap Ok (append-nil readings)
nothing_left done (byte ∷ rest) readings none = absurd (omega (arith, eqb-true (length (byte ∷ rest)) 0 none))

module _ (done : ℕ) (rest : List ℕ) (few : done < most_readings) (some : (length rest == 0) ≡ false) where
  line_next : left_at done rest
      ≡ read_before (done + 1) (reading_of (first_line rest)) (left_at (done + 1) (rest_of rest))
  line_next =
      ap (readings_from (done + 1)) (lines_cut [] rest (positive rest some))
      ∙ ap (λ (b : Bool). if b then Err TooMany
      else read_before (done + 1) (reading_of (first_line rest)) (left_at (done + 1) (rest_of rest)))
      (not_more (done + 1) (omega arith))
    where
      positive : (rest : List ℕ) → (length rest == 0) ≡ false → 0 < 0 + length rest
      positive [] is = absurd cc
      positive (byte ∷ rest) is = omega arith

      not_more : (n : ℕ) → n < most_readings + 1 → nat_lt most_readings n ≡ false
      not_more n few = grind (arith, nat_tests)

  -- a line that is a reading
  pub line_read : (readings : List ReadingData) (reading : ReadingData) → Some reading ≡ reading_of (first_line rest)
      → after_readings readings (left_at done rest)
      ≡ after_readings (readings ++ reading ∷ []) (left_at (done + 1) (rest_of rest))
  line_read readings reading is =
      ap (after_readings readings) (line_next
      ∙ ap (λ o. read_before (done + 1) o (left_at (done + 1) (rest_of rest))) (sym is))
      ∙ put (left_at (done + 1) (rest_of rest))
    where
      put : (r : Result (List ReadingData) TimesFault) →
          after_readings readings (read_before (done + 1) (Some reading) r)
          ≡ after_readings (readings ++ reading ∷ []) r
      put (Ok more) = ap Ok (sym (append_assoc readings (reading ∷ []) more))
      put (Err fault) = refl

  -- one that is none
  pub line_bad : (readings : List ReadingData) → None ≡ reading_of (first_line rest)
      → after_readings readings (left_at done rest) ≡ Err (Time (done + 1))
  line_bad readings is =
      ap (after_readings readings) (line_next
      ∙ ap (λ o. read_before (done + 1) o (left_at (done + 1) (rest_of rest))) (sym is))

-- lines beyond the most
pub line_beyond : (rest : List ℕ) (readings : List ReadingData) → (length rest == 0) ≡ false
    → after_readings readings (left_at most_readings rest) ≡ Err TooMany
line_beyond [] readings some = absurd cc
line_beyond (byte ∷ rest) readings some =
    ap (λ lines. after_readings readings (readings_from (most_readings + 1) lines))
    (lines_cut [] (byte ∷ rest) (omega arith))

pub beyond : (done : ℕ) (rest : List ℕ) → most_readings ≡ done → (readings : List ReadingData)
    → (length rest == 0) ≡ false → after_readings readings (left_at done rest) ≡ Err TooMany
beyond done rest is readings some = rw (sym is) (line_beyond rest readings some)
