use Rattle.std.proofs.Common.{length}
use Rattle.line_writer.proofs.field.+put_rest.Given as goal

abbrev pub decreases-put_rest : goal.decreases-put_rest
decreases-put_rest l = length l.fields.now
