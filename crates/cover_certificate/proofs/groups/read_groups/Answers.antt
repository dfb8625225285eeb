use Rattle.cover_certificate.proofs.Common.{◌≡◌, ◌+◌, ◌≤◌, length, Some, None, Ok, sym, ap, ◌∙◌, arith, length-append, parse_map, after_end_array, mapped-shorter, element_refused, next_items, given, group_of, max_groups}
use Rattle.cover_certificate.proofs.EntriesRead.{so_far, and_one, list_after, too_many_there, one_more_there, none_there, pushed_one, pushed_none}
use Rattle.cover_certificate.proofs.groups.read_groups.Goals as goal
use Rattle.cover_certificate.proofs.groups.read_groups.Goals.{Joined-branch-3, in-Some, in-None}

pub returns-then-count-eq-MAX_GROUPS : goal.returns-then-count-eq-MAX_GROUPS
returns-then-count-eq-MAX_GROUPS c =
    let l = c.groups in
    let found = so_far l.are_groups l.groups.items in
    let going : (after_end_array l.reader ≡ None) × (c.take_end_array.new.self ≡ l.reader) = grind arith in
    l.invariant.read
    ∙ too_many_there c.args.bad c.args.bad max_groups group_of l.count found c.args.depth l.reader
    going.0 c.pass_items.new.reader (omega arith)
    (rw (← going.1) c.in_ok-pass_items.ensures.passed)

pub returns-in_err-group : goal.returns-in_err-group
returns-in_err-group c =
    let l = c.groups in
    let found = so_far l.are_groups l.groups.items in
    let going : (after_end_array l.reader ≡ None) × (c.take_end_array.new.self ≡ l.reader) = grind arith in
    let refused = l.invariant.read
    ∙ element_refused (list_after c.args.bad c.args.bad max_groups group_of l.count found)
    c.args.depth l.reader group_of going.0
    (rw (← going.1) c.in_err-group.ensures) in
    grind (arith, refused)

pub groups-smaller : goal.groups-smaller
groups-smaller c =
    let l = c.groups in
    let going : (after_end_array l.reader ≡ None) × (c.take_end_array.new.self ≡ l.reader) = grind arith in
    mapped-shorter group_of c.args.depth l.reader c.read_group.new.reader c.in_ok-group.field-0
    (rw (← going.1) c.in_ok-group.ensures)

added : (c : Joined-branch-3) →
    so_far c.match-branch-3.are_groups c.match-branch-3.groups.items
    ≡ and_one (so_far c.groups.are_groups c.groups.groups.items) c.in_ok-group.field-0
added c =
    let l = c.groups in
    elim c.match-branch-3.branch [
      | in-Some w ↦
          rw (w.are_groups-is, w.groups-is, w.in-Some.is)
          (pushed_one l.are_groups l.groups.items w.push.new.self.items w.in-Some.group w.push.ensures.items)
      | in-None w ↦
          rw (w.are_groups-is, w.in-None.is) (pushed_none l.are_groups l.groups.items l.groups.items)
    ]

counted : (c : Joined-branch-3) → length c.match-branch-3.groups.items ≤ c.groups.count + 1
counted c =
    let l = c.groups in
    elim c.match-branch-3.branch [
      | in-Some w ↦
          rw (w.groups-is, w.push.ensures.items)
          (simp length-append (omega (arith, l.invariant.held)))
      | in-None w ↦ rw w.groups-is (omega (arith, l.invariant.held))
    ]

pub groups-preserved : goal.groups-preserved
groups-preserved c =
    let l = c.groups in
    let group = c.in_ok-group.field-0 in
    let found = so_far l.are_groups l.groups.items in
    let r = c.read_group.new.reader in
    let going : (after_end_array l.reader ≡ None) × (c.take_end_array.new.self ≡ l.reader) = grind arith in
    record {
      read = l.invariant.read
          ∙ one_more_there c.args.bad c.args.bad max_groups group_of l.count found c.args.depth l.reader going.0 group r
          (rw (← going.1) c.in_ok-group.ensures)
          ∙ ap (λ f. parse_map (list_after c.args.bad c.args.bad max_groups group_of (l.count + 1) f)
          (next_items c.args.depth r))
          (sym (added c));
      held = counted c;
      few = omega (arith, l.invariant.few);
    }

pub returns-then-are_groups : goal.returns-then-are_groups
returns-then-are_groups c =
    let l = c.groups in
    let r = c.take_end_array.new.self in
    l.invariant.read
    ∙ none_there c.args.bad c.args.bad max_groups group_of l.count (so_far l.are_groups l.groups.items)
    c.args.depth l.reader r (grind arith)
    l.invariant.few
    ∙ ap (λ b. Some (given c.args.bad (so_far b l.groups.items) Ok, r)) c.if-are_groups.true

pub returns-else-are_groups : goal.returns-else-are_groups
returns-else-are_groups c =
    let l = c.groups in
    let r = c.take_end_array.new.self in
    l.invariant.read
    ∙ none_there c.args.bad c.args.bad max_groups group_of l.count (so_far l.are_groups l.groups.items)
    c.args.depth l.reader r (grind arith)
    l.invariant.few
    ∙ ap (λ b. Some (given c.args.bad (so_far b l.groups.items) Ok, r)) c.if-are_groups.false
