-- A claim and its text, which was written by hand: the clock was within 10,001,001 ns of UTC at
-- 2001-09-09T01:46:40Z.
use Rattle.std.specs.Prelude.{ℕ, ◌*◌, ◌^◌, pos, List, [], ◌∷◌, ◌++◌, codes}
use Rattle.claim_file.specs.Claim.{ClaimData}

-- 2001-09-09T01:46:40Z in Unix ticks
abbrev pub worked_second : ℕ
worked_second = 1000000000 * 2 ^ 32

-- the text
abbrev pub worked_text : List ℕ
worked_text =
    codes "{\"client\":\"192.0.2.10\",\"servers\":[\"192.0.2.1\"],\"false_max\":0,"
    ++ codes "\"from\":\"2001-09-09T01:46:40Z\",\"to\":\"2001-09-09T01:46:40Z\","
    ++ codes "\"bound_ns\":10001001,\"drift_ppb\":0,\"reading_ns\":0}"

-- what it says
abbrev pub worked_claim : ClaimData
worked_claim = record {
  client = 192 ∷ 0 ∷ 2 ∷ 10 ∷ [];
  servers = (192 ∷ 0 ∷ 2 ∷ 1 ∷ []) ∷ [];
  groups = 0 ∷ [];
  false_max = 0;
  first = pos worked_second;
  last = pos worked_second;
  bound = pos 42953972;
  bound_ns = 10001001;
  drift_ppb = 0;
  reading = pos 0;
  reading_ns = 0;
}
