use Rattle.std.proofs.Common.{sym}
use Rattle.batch_diag.proofs.CutLemmas.{row_line}
use Rattle.batch_diag.proofs.lines.is_title.Goals as goal

pub returns-then-begins_row : goal.returns-then-begins_row
returns-then-begins_row c = sym (row_line c.args.line.now (sym c.if-begins_row.ensures))
