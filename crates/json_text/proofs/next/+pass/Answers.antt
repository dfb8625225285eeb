use Rattle.json_text.proofs.Common.{◌≡◌, ◌<◌, length, Some, None, refl, ap, ◌∙◌, arith, left_some, left_none, read_key-shorter, after_end_array, read_key, no_members, put, next_value, next_items, next_members, rest_after}
use Rattle.json_text.proofs.NextTokens.{items_over, item_refused, item_passed, members_over, key_refused, member_refused, member_read}
use Rattle.json_text.proofs.next.+pass.Goals as goal

pub pass_items-items-preserved : goal.pass_items-items-preserved
pass_items-items-preserved t c =
    let l = c.items in
    let r = c.pass_value.new.reader in
    let going : (after_end_array l.reader ≡ None) × (c.take_end_array.new.self ≡ l.reader) = grind arith in
    let done = c.in_ok-pass_value.ensures in
    let less : length r < length l.reader = rw (← going.1) done.shorter in
    record {
      left = l.invariant.left ∙ item_passed c.args.depth l.reader r going.0 (rw (← going.1) done.passed);
      within = omega (arith, l.invariant.within);
    }

pub pass_items-returns-in_err-pass_value-clause-passed : goal.pass_items-returns-in_err-pass_value-clause-passed
pass_items-returns-in_err-pass_value-clause-passed t c =
    let l = c.items in
    let going : (after_end_array l.reader ≡ None) × (c.take_end_array.new.self ≡ l.reader) = grind arith in
    let none : next_items c.args.depth l.reader ≡ None =
    item_refused c.args.depth l.reader going.0 (rw (← going.1) c.in_err-pass_value.ensures.passed) in
    let refused : next_items c.args.depth c.args.reader.now ≡ None =
    left_none (next_items c.args.depth c.args.reader.now) (l.invariant.left ∙ ap rest_after none) in
    grind (arith, refused)

pub pass_items-returns-clause-passed : goal.pass_items-returns-clause-passed
pass_items-returns-clause-passed t c =
    let l = c.items in
    let r = c.take_end_array.new.self in
    let over : after_end_array l.reader ≡ Some r = grind arith in
    l.invariant.left ∙ ap rest_after (items_over c.args.depth l.reader r over)

pub pass_members-members-init : goal.pass_members-members-init
pass_members-members-init t c = (no_members, refl, omega arith)

pub pass_members-returns-in_err-next_key-clause-passed : goal.pass_members-returns-in_err-next_key-clause-passed
pass_members-returns-in_err-next_key-clause-passed t c =
    let l = c.members in
    let refused : next_members c.args.depth no_members c.args.reader.now ≡ None =
    l.invariant.1 ∙ key_refused c.args.depth l.invariant.0 l.reader c.in_err-next_key.ensures.value in
    grind (arith, refused)

pub pass_members-members-preserved : goal.pass_members-members-preserved
pass_members-members-preserved t c =
    let l = c.members in
    let d = c.args.depth in
    let k = c.in-Some.field-0.now in
    let s = c.next_key.new.self in
    let r = c.pass_value.new.reader in
    let named : read_key l.reader ≡ Some (Some k, s) = grind arith in
    let done = c.in_ok-pass_value.ensures in
    let value = left_some (next_value d s) r done.passed in
    let first = read_key-shorter l.reader (Some k) s named in
    let less = done.shorter in (
      put k value.0 l.invariant.0,
      l.invariant.1 ∙ member_read d l.invariant.0 l.reader k s r value.0 named value.1,
      omega (arith, l.invariant.2),
    )

pub pass_members-returns-in_err-pass_value-clause-passed : goal.pass_members-returns-in_err-pass_value-clause-passed
pass_members-returns-in_err-pass_value-clause-passed t c =
    let l = c.members in
    let k = c.in-Some.field-0.now in
    let s = c.next_key.new.self in
    let named : read_key l.reader ≡ Some (Some k, s) = grind arith in
    let refused : next_members c.args.depth no_members c.args.reader.now ≡ None =
    l.invariant.1
    ∙ member_refused c.args.depth l.invariant.0 l.reader k s named c.in_err-pass_value.ensures.passed in
    grind (arith, refused)

pub pass_members-returns-clause-passed : goal.pass_members-returns-clause-passed
pass_members-returns-clause-passed t c =
    let l = c.members in
    let r = c.next_key.new.self in
    let over : read_key l.reader ≡ Some (None, r) = grind arith in
    ap rest_after (l.invariant.1 ∙ members_over c.args.depth l.invariant.0 l.reader r over)
