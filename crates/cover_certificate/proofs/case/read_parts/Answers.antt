use Rattle.cover_certificate.proofs.Common.{◌≡◌, Some, None, inl, inr, refl, sym, ap, ◌∙◌, arith, parse_map, read_key, key_refused, member_read, member_refused, members_over, no_members, put, case_parts_of}
use Rattle.certificate.proofs.PartsRead.{member-shorter}
use Rattle.cover_certificate.proofs.case.read_parts.Goals as goal

pub members-init : goal.members-init
members-init c = (no_members, refl, refl)

pub returns-in_err-name : goal.returns-in_err-name
returns-in_err-name c =
    let l = c.members in
    let refused = ap (parse_map (case_parts_of c.args.number c.args.first))
    (l.invariant.1 ∙ key_refused c.args.depth l.invariant.0 l.reader c.in_err-name.ensures.value) in
    grind (arith, refused)

pub members-smaller : goal.members-smaller
members-smaller c =
    member-shorter c.args.depth c.members.reader c.next_key.new.self c.read.new.reader c.in-Some.name.now (grind arith)
    c.in_ok-read.ensures.0 c.in_ok-read.ensures.1

pub members-preserved : goal.members-preserved
members-preserved c =
    let l = c.members in
    let s = c.next_key.new.self in
    let k = c.in-Some.name.now in
    let named : read_key l.reader ≡ Some (Some k, s) = grind arith in
    let done = c.in_ok-read.ensures in (
      put k done.0 l.invariant.0,
      l.invariant.1 ∙ member_read c.args.depth l.invariant.0 l.reader k s c.read.new.reader done.0 named done.1,
      done.2 l.invariant.0 l.invariant.2,
    )

pub returns-in_err-read : goal.returns-in_err-read
returns-in_err-read c =
    let l = c.members in
    let s = c.next_key.new.self in
    let k = c.in-Some.name.now in
    let named : read_key l.reader ≡ Some (Some k, s) = grind arith in
    elim c.in_err-read.ensures [
      | inl memory ↦ grind (arith, memory)
      | inr none ↦
          let refused = ap (parse_map (case_parts_of c.args.number c.args.first))
          (l.invariant.1 ∙ member_refused c.args.depth l.invariant.0 l.reader k s named none.1) in
          grind (arith, refused)
    ]

pub returns : goal.returns
returns c =
    let l = c.members in
    let r = c.next_key.new.self in
    let over : read_key l.reader ≡ Some (None, r) = grind arith in
    ap (parse_map (case_parts_of c.args.number c.args.first))
    (l.invariant.1 ∙ members_over c.args.depth l.invariant.0 l.reader r over)
    ∙ ap (λ p. Some (p, r)) (sym l.invariant.2)
