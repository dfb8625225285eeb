use Rattle.claim_file.proofs.Common.{true, false, sym, ◌∙◌, FitsSigned, w64, rules, to_z-of_z}
use Rattle.claim_file.proofs.Times.{time_of-read, found_there, time_of-missing}
use Rattle.claim_file.proofs.time.read_time.Goals as goal

pub returns-then-eq : goal.returns-then-eq
returns-then-eq c =
    let fits : FitsSigned w64 c.in_ok-second.second = search rules in
    (simp to_z-of_z at c.in_u32.ensures)
    ∙ time_of-read true c.as_bytes-bytes.ensures.value c.date_time_at-date_time.ensures c.unix_second.ensures
    c.in_ok-second.was
    (c.as_slice.ensures ∙ c.spelling.ensures) (sym c.if-eq.true ∙ c.eq.ensures)

pub returns-else-eq : goal.returns-else-eq
returns-else-eq c =
    time_of-read false c.as_bytes-bytes.ensures.value c.date_time_at-date_time.ensures c.unix_second.ensures
    c.in_ok-second.was
    (c.as_slice.ensures ∙ c.spelling.ensures) (sym c.if-eq.false ∙ c.eq.ensures)

pub spelling-requires : goal.spelling-requires
spelling-requires c = found_there _ _ _ c.unix_second.ensures c.in_ok-second.was

pub returns-in_err-second : goal.returns-in_err-second
returns-in_err-second c =
    time_of-missing c.as_bytes-bytes.ensures.value c.date_time_at-date_time.ensures c.unix_second.ensures
    c.in_err-second.was c.from_residual.ensures
