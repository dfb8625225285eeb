-- The text of `samples`: a line for each sample, numbered from 0 in the order of the exchanges, and
-- the counts.
use Rattle.std.specs.Prelude.{ℕ, List, ◌++◌, length}
use Rattle.audit_text.specs.Common.{Style, ClaimData, Collection}
use Rattle.audit_text.specs.SampleLine.{sample_columns, sample_line}
use Rattle.audit_text.specs.CountsLine.{counts_line}
use Rattle.audit_text.specs.Table.{heading, rows_from}

-- the whole text
unfoldable pub samples_text : Style → ClaimData → Collection → List ℕ
samples_text style claim collection =
    heading style sample_columns ++
    rows_from (sample_line style claim) 0 collection.exchanges ++
    counts_line collection.counts (length collection.exchanges)
