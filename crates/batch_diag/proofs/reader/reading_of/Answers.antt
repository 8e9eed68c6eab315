use Rattle.std.proofs.Common.{sym, ◌∙◌}
use Rattle.response_log.specs.LogRows.{row_lines}
use Rattle.batch_diag.proofs.ReadLemmas.{title_of_lines}
use Rattle.batch_diag.proofs.reader.reading_of.Goals as goal

pub returns-in-Some-title_fault-clause-inner : goal.returns-in-Some-title_fault-clause-inner
returns-in-Some-title_fault-clause-inner c =
    title_of_lines (row_lines c.args.text.items.now) c.in-Some-title_fault.fault
    (sym c.title_fault.ensures ∙ c.in-Some-title_fault.is)
