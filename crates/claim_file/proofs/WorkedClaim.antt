-- The worked claim, computed from its text.
use Rattle.claim_file.proofs.Common.{◌≡◌, Ok, refl, ticks_down, ticks_up, floor_of, ceiling_of, days_from_civil, day_count, days_of_years, days_of_months, read_ipv4, read_octet, read_number, is_utf8, chars, serde_json_on_literals, claim_of}
use Rattle.claim_file.specs.Worked.{worked_text, worked_claim}

pub is_claim : claim_of worked_text ≡ Ok worked_claim
unfolding serde_json_on_literals days_from_civil day_count days_of_years days_of_months ticks_down ticks_up
    floor_of ceiling_of is_utf8 chars read_ipv4 read_octet read_number
is_claim = refl
