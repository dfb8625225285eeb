use Rattle.audit_text.proofs.Common.{◌≡◌, ◌≤◌, length, map, reverse, field_data, from_field}
use Rattle.audit_text.proofs.table.without_blanks.Given as goal

abbrev pub invariant-loop-fields : goal.invariant-loop-fields
invariant-loop-fields l = record {
  same : from_field (reverse (map field_data l.fields)) ≡ from_field (reverse (map field_data l.fn.fields));
  within : length l.fields ≤ length l.fn.fields;
}

abbrev pub decreases-loop-fields : goal.decreases-loop-fields
decreases-loop-fields l = length l.fields
