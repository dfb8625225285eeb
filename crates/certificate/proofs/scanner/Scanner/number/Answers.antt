use Rattle.std.proofs.Common.{◌≡◌, ◌+◌, ◌*◌, ◌<◌, ◌^◌, length, ap, arith, subst}
use Rattle.certificate.proofs.Digits.{IsRead, first_digit, next_digit}
use Rattle.certificate.proofs.scanner.Scanner.number.Goals as goal

pub returns-then-number-eq0 : goal.returns-then-number-eq0
returns-then-number-eq0 c =
    first_digit c.args.self.now c.digit.new.self c.from-number.result c.in_ok-digit.field-0 c.from-number.ensures
    c.in_ok-digit.ensures.digit c.in_ok-digit.ensures.read

pub loop-digit-init : goal.loop-digit-init
loop-digit-init c = record {
  read = first_digit c.args.self.now c.digit.new.self c.from-number.result c.in_ok-digit.field-0 c.from-number.ensures
      c.in_ok-digit.ensures.digit c.in_ok-digit.ensures.read;
  some = omega arith;
}

pub loop-digit-preserved : goal.loop-digit-preserved
loop-digit-preserved c =
    let n = c.loop-digit.number in
    let digit = c.in-Some.digit in
    let is : n * 10 + digit ≡ c.in_ok-number.number = omega arith in
    let fits : n * 10 + digit < 2 ^ 64 = omega arith in
    subst (λ m. IsRead c.args.self.now c.digit-in-loop-digit.new.self m) is
    (next_digit c.args.self.now c.loop-digit.self c.digit-in-loop-digit.new.self n digit c.loop-digit.invariant
    c.in-Some.ensures.read (c.in-Some.ensures.digit, fits))

pub loop-digit-smaller : goal.loop-digit-smaller
loop-digit-smaller c = omega (arith, ap length c.in-Some.ensures.read)
