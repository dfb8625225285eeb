use Rattle.std.proofs.Common.{◌≤◌, ◌↔◌, ℕ, Bool, length, map, take}
use Rattle.cover_certificate.specs.CoverCertificate.{case_data}
use Rattle.cover_checker.specs.CoverSearch.{HoldsOne}
use Rattle.cover_checker.specs.Conflict.{HoldsCase}
use Rattle.cover_checker.proofs.case.sets_of.Given as goal

abbrev pub invariant-loop-case : goal.invariant-loop-case
invariant-loop-case l = record {
  holds : (is_in : ℕ → Bool)
      → HoldsOne l.sets.items is_in ↔ HoldsCase (map case_data (take l.case-index l.cases)) is_in;
  fits : length l.sets.items ≤ l.case-index;
}
