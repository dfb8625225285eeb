use Rattle.feasibility.proofs.ConflictTables.{by_table, from_table, small_by_table, small_from_table}
use Rattle.feasibility.proofs.TableCovers.{from_table as to_conflicts, to_table}
use Rattle.feasibility.proofs.laws.tables_settle_covers.Goals as goal

pub returns-clause-small : goal.returns-clause-small
returns-clause-small c claim xs is_broken is_edge lawful each table = (
  small_by_table claim xs lawful each is_broken is_edge table,
  small_from_table claim xs lawful each is_broken is_edge table,
)

pub returns-clause-each : goal.returns-clause-each
returns-clause-each c claim xs d is_in lawful each same table = (
  λ cover. to_conflicts claim d same is_in (by_table claim xs lawful each d.is_broken d.is_edge table is_in cover),
  λ cover. from_table claim xs lawful each d.is_broken d.is_edge table is_in (to_table claim d same is_in cover),
)
