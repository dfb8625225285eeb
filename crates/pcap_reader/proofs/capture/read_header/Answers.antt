use Rattle.pcap_reader.proofs.Common.{◌-◌, ◌<◌, ◌≤◌, ◌∙◌, ap, sym, subst, length, arith, length-append, err_from_is_err_and, Keeps, prepend_known, held_bytes, header_of, buffer_size}
use Rattle.pcap_reader.proofs.Beginning.{held-none, Keeps-first, header_refused, header_begun, header_fault_counts, header_fault_most, not_memory}
use Rattle.pcap_reader.proofs.Intake.{refilled, length-held}
use Rattle.pcap_reader.proofs.Prefix.{header_fault}
use Rattle.pcap_reader.proofs.capture.read_header.Goals as goal

pub returns-in_err-format-clause-counts_fault : goal.returns-in_err-format-clause-counts_fault
returns-in_err-format-clause-counts_fault g c = grind (arith, err_from_is_err_and, header_fault, header_fault_counts)

pub returns-in_err-format-clause-refusal : goal.returns-in_err-format-clause-refusal
returns-in_err-format-clause-refusal g c =
    let p = err_from_is_err_and c.from_residual.result c.from_residual.ensures.1 in
    let s = c.args.input.now in
    let i = c.hold.new.self in
    let state = g.F.Feed.state in
    let h = c.in-Ok.ensures in
    let keeps = Keeps-first (state s.feed).remaining (state i.feed).remaining (held_bytes s) (held_bytes i)
    (held-none s c.requires.none_held) (refilled state s i h.pulls) in
    let end =
    λ (short : length (held_bytes i) < 24).
    let less : i.end - i.start < 24 = omega (arith, length-held i) in
    h.enough less
    in
    let value = ap header_of (sym c.held.ensures.value) ∙ sym c.in_err-format.ensures.value in
    rw (p.1, p.2) (header_refused (state s.feed).remaining (state i.feed).remaining (held_bytes i)
    c.in_err-format.field-0.0 keeps end value)

pub returns-in_err-format-clause-not_memory : goal.returns-in_err-format-clause-not_memory
returns-in_err-format-clause-not_memory g c =
    let p = err_from_is_err_and c.from_residual.result c.from_residual.ensures.1 in
    let e = c.in_err-format.field-0.0 in
    rw (p.1, p.2) (not_memory e (header_fault c.held.result.now e (sym c.in_err-format.ensures.value)))

pub returns-in_err-format-clause-at_most : goal.returns-in_err-format-clause-at_most
returns-in_err-format-clause-at_most g c =
    let p = err_from_is_err_and c.from_residual.result c.from_residual.ensures.1 in
    let s = c.args.input.now in
    let i = c.hold.new.self in
    let e = c.in_err-format.field-0.0 in
    let pulls = c.in-Ok.ensures.pulls in
    let fault = header_fault c.held.result.now e (sym c.in_err-format.ensures.value) in
    let size = ap length pulls.joined ∙ length-append (held_bytes s) pulls.pulled in
    let room : i.end ≤ buffer_size = omega (arith, i.in_bounds, i.roomy) in
    rw (p.1, p.2) (header_fault_most e _ _ fault (record {
      taken = pulls.pulled;
      consumed = pulls.consumed;
      at_most = omega (arith, length-held i);
      counted = pulls.counted;
    }))

pub returns-clause-known : goal.returns-clause-known
returns-clause-known g c =
    let s = c.args.input.now in
    let i = c.hold.new.self in
    let k = c.consume.new.self in
    let state = g.F.Feed.state in
    let keeps = Keeps-first (state s.feed).remaining (state i.feed).remaining (held_bytes s) (held_bytes i)
    (held-none s c.requires.none_held) (refilled state s i c.in-Ok.ensures.pulls) in
    let keeps' = subst (λ f. Keeps (state s.feed).remaining (prepend_known (held_bytes i) (state f).remaining))
    (sym c.consume.ensures.feed) keeps in
    let long : 24 ≤ length (held_bytes i) = omega (arith, c.in_ok-format.ensures.long, ap length c.held.ensures.value)
    in
    let value = ap header_of (sym c.held.ensures.value) ∙ sym c.in_ok-format.ensures.value in
    header_begun (state s.feed).remaining (state k.feed).remaining (held_bytes i) (held_bytes k)
    c.in_ok-format.format keeps' long value c.consume.ensures.rest
