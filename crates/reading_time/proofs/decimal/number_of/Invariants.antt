use Rattle.reading_time.proofs.Common.{◌≡◌, ◌<◌, ◌^◌, drop, number_from, number_of}
use Rattle.reading_time.proofs.decimal.number_of.Given as goal

abbrev pub invariant-loop-digit : goal.invariant-loop-digit
invariant-loop-digit l = record {
  rest : number_from l.number (drop l.digit-index l.digits) ≡ number_of l.digits;
  small : l.number < 10 ^ l.digit-index;
}
