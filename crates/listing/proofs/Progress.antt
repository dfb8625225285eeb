-- How a listing of known bytes goes on, record by record, and how it ends.
use Rattle.listing.proofs.Common.{◌≡◌, ◌∙◌, ◌++◌, ◌+◌, ℕ, List, [], ◌∷◌, length, take, Option, Some, None, Ok, Err, refl, subst, arith, append_assoc, append-nil, length-append, IfSome, concat, concat-append, CaptureFault, RecordHead, Record, Coming, then_coming, whole_end, broken_end, IsNext, IsCut, Report, text_of, line_of, lines_of, closing_line, report_on, listing, HasGiven, HasPassed, texts_of}
use Rattle.std.proofs.lemmas.List.{take-append-le}
use Rattle.report.specs.declared.fault.Outcome.TheVariants as outcomes
use Rattle.report.specs.declared.fault.RunFault.TheVariants as faults

-- what holds of what is there
pub at_some : {X : Type 0} (o : Option X) (x : X) (P : X → Type 0) → o ≡ Some x → IfSome o P → P x
at_some None x P e h = cc
at_some (Some y) x P e h = let same : y ≡ x = cc in subst P same h

-- the lines of one record and then of the others
lines_by : (r : Record) (rs : List Record) (o : Option (List ℕ)) → line_of r ≡ o →
    lines_of (r ∷ rs) ≡ texts_of o ++ lines_of rs
unfolding lines_of
lines_by r rs None is = rw is refl
lines_by r rs (Some line) is = rw is refl

lines_of-cons : (r : Record) (rs : List Record) → lines_of (r ∷ rs) ≡ texts_of (line_of r) ++ lines_of rs
lines_of-cons r rs = lines_by r rs (line_of r) refl

-- one record was given
given_more : {whole now : Coming} {done : List (List ℕ)} {records : ℕ} (rest : Coming) (r : Record) →
    now ≡ then_coming r rest → HasGiven whole now done records →
    HasGiven whole rest (done ++ texts_of (line_of r)) (records + 1)
given_more {now = now} rest r first given = grind (arith, lines_of-cons, append_assoc, length)

pub passed_start : (start : Option Coming) (given : ℕ) → given ≡ 0 → HasPassed start start [] given
passed_start None given none = tt
passed_start (Some whole) given none = (whole, refl, record { lines = refl; fault = refl; given = omega arith })

module _ (start old new : Option Coming) (done : List (List ℕ)) (records : ℕ) where
  pub passed_more : (head : RecordHead) (lent : List ℕ) → HasPassed start old done records →
      IfSome old (λ c. IsNext c (Ok (Some head)) new lent) →
      HasPassed start new (done ++ texts_of (line_of (record { head = head; bytes = lent }))) (records + 1)
  passed_more head lent passed next =
      let r : Record = record { head = head; bytes = lent } in
      let after = done ++ texts_of (line_of r) in
      elim start as (λ (o : Option Coming). HasPassed o old done records → HasPassed o new after (records + 1)) [
        | None ↦ λ nothing. tt
        | Some whole ↦ λ given.
            let h = at_some old given.0 (λ c. IsNext c (Ok (Some head)) new lent) given.1 next in
            (h.0, h.2, given_more h.0 r h.1 given.2)
      ] passed

-- the whole report, if the records end whole and if they end with a fault
lines_done : {whole rest : Coming} {done : List (List ℕ)} {records : ℕ} → HasGiven whole rest done records →
    rest.records ≡ [] → (lines_of whole.records ≡ done) × (length whole.records ≡ records)
unfolding lines_of
lines_done {done = done} given none = (given.lines ∙ rw none (append-nil done), given.given ∙ rw none (omega arith))

pub listing-whole : {whole : Coming} {done : List (List ℕ)} {records : ℕ} → HasGiven whole whole_end done records →
    listing whole ≡ record { lines = done; closing = closing_line records (length done); answer = Ok outcomes.Yes }
unfolding listing
listing-whole given = let all = lines_done given refl in rw (given.fault, all.0, all.1) refl

pub listing-broken : {whole : Coming} {fault : CaptureFault} {done : List (List ℕ)} {records : ℕ} →
    HasGiven whole (broken_end fault) done records →
    listing whole ≡ record { lines = done; closing = []; answer = Err (faults.Capture fault) }
unfolding listing
listing-broken given = let all = lines_done given refl in rw (given.fault, all.0) refl

-- the lines of the report
lines-report_on : (records : List Record) (fault : Option CaptureFault) →
    (report_on records fault).lines ≡ lines_of records
lines-report_on records None = refl
lines-report_on records (Some fault) = refl

pub lines-listing : (whole : Coming) → (listing whole).lines ≡ lines_of whole.records
unfolding listing
lines-listing whole = lines-report_on whole.records whole.fault

-- a report's text is cut short where its first lines are
pub cut_in_lines : {before after : Option (List ℕ)} {sent : ℕ} (report : Report) (done others : List (List ℕ)) →
    report.lines ≡ done ++ others → IsCut (concat done) before after sent → IsCut (text_of report) before after sent
cut_in_lines {before = before} {after = after} {sent = sent} report done others lines cut =
    grind (arith, concat, text_of, concat-append, append_assoc, take-append-le, length, length-append, take)
