use Rattle.cover_certificate.proofs.Common.{◌≡◌, ◌+◌, ◌≤◌, length, Some, None, Ok, sym, ap, ◌∙◌, arith, length-append, parse_map, after_end_array, mapped-shorter, element_refused, next_items, given, entry_of}
use Rattle.cover_certificate.proofs.EntriesRead.{so_far, and_one, list_after, too_many_there, one_more_there, none_there, pushed_one, pushed_none}
use Rattle.cover_certificate.proofs.entry.read_pairs.Given.{Over}
use Rattle.cover_certificate.proofs.entry.read_pairs.Goals as goal
use Rattle.cover_certificate.proofs.entry.read_pairs.Goals.{Joined-branch-3, in-Some, in-None}

pub returns-then-count : goal.returns-then-count
returns-then-count g c =
    let l = c.entries in
    let found = so_far l.are_pairs l.entries.items in
    let going : (after_end_array l.reader ≡ None) × (c.take_end_array.new.self ≡ l.reader) = grind arith in
    l.invariant.read
    ∙ too_many_there c.args.many c.args.bad g.row.MOST entry_of l.count found c.args.depth l.reader
    going.0 c.pass_items.new.reader (omega arith)
    (rw (← going.1) c.in_ok-pass_items.ensures.passed)

pub returns-in_err-entry : goal.returns-in_err-entry
returns-in_err-entry g c =
    let l = c.entries in
    let found = so_far l.are_pairs l.entries.items in
    let going : (after_end_array l.reader ≡ None) × (c.take_end_array.new.self ≡ l.reader) = grind arith in
    let refused = l.invariant.read
    ∙ element_refused (list_after c.args.many c.args.bad g.row.MOST entry_of l.count found)
    c.args.depth l.reader entry_of going.0
    (rw (← going.1) c.in_err-entry.ensures) in
    grind (arith, refused)

pub entries-smaller : goal.entries-smaller
entries-smaller g c =
    let l = c.entries in
    let going : (after_end_array l.reader ≡ None) × (c.take_end_array.new.self ≡ l.reader) = grind arith in
    mapped-shorter entry_of c.args.depth l.reader c.read_entry.new.reader c.in_ok-entry.field-0
    (rw (← going.1) c.in_ok-entry.ensures)

added : (g : Over) (c : Joined-branch-3 g) →
    so_far c.match-branch-3.are_pairs c.match-branch-3.entries.items
    ≡ and_one (so_far c.entries.are_pairs c.entries.entries.items) c.in_ok-entry.field-0
added g c =
    let l = c.entries in
    elim c.match-branch-3.branch [
      | in-Some w ↦
          rw (w.are_pairs-is, w.entries-is, w.in-Some.is)
          (pushed_one l.are_pairs l.entries.items w.push.new.self.items w.in-Some.entry w.push.ensures.items)
      | in-None w ↦
          rw (w.are_pairs-is, w.in-None.is) (pushed_none l.are_pairs l.entries.items l.entries.items)
    ]

counted : (g : Over) (c : Joined-branch-3 g) → length c.match-branch-3.entries.items ≤ c.entries.count + 1
counted g c =
    let l = c.entries in
    elim c.match-branch-3.branch [
      | in-Some w ↦
          rw (w.entries-is, w.push.ensures.items)
          (simp length-append (omega (arith, l.invariant.held)))
      | in-None w ↦ rw w.entries-is (omega (arith, l.invariant.held))
    ]

pub entries-preserved : goal.entries-preserved
entries-preserved g c =
    let l = c.entries in
    let entry = c.in_ok-entry.field-0 in
    let found = so_far l.are_pairs l.entries.items in
    let r = c.read_entry.new.reader in
    let going : (after_end_array l.reader ≡ None) × (c.take_end_array.new.self ≡ l.reader) = grind arith in
    record {
      read = l.invariant.read
          ∙ one_more_there c.args.many c.args.bad g.row.MOST entry_of l.count found c.args.depth l.reader
          going.0 entry r
          (rw (← going.1) c.in_ok-entry.ensures)
          ∙ ap (λ f. parse_map (list_after c.args.many c.args.bad g.row.MOST entry_of (l.count + 1) f)
          (next_items c.args.depth r))
          (sym (added g c));
      held = counted g c;
      few = omega (arith, l.invariant.few);
    }

pub returns-then-are_pairs : goal.returns-then-are_pairs
returns-then-are_pairs g c =
    let l = c.entries in
    let r = c.take_end_array.new.self in
    l.invariant.read
    ∙ none_there c.args.many c.args.bad g.row.MOST entry_of l.count (so_far l.are_pairs l.entries.items)
    c.args.depth l.reader r (grind arith)
    l.invariant.few
    ∙ ap (λ b. Some (given c.args.bad (so_far b l.entries.items) Ok, r)) c.if-are_pairs.true

pub returns-else-are_pairs : goal.returns-else-are_pairs
returns-else-are_pairs g c =
    let l = c.entries in
    let r = c.take_end_array.new.self in
    l.invariant.read
    ∙ none_there c.args.many c.args.bad g.row.MOST entry_of l.count (so_far l.are_pairs l.entries.items)
    c.args.depth l.reader r (grind arith)
    l.invariant.few
    ∙ ap (λ b. Some (given c.args.bad (so_far b l.entries.items) Ok, r)) c.if-are_pairs.false
