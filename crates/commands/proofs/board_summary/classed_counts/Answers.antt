use Rattle.std.proofs.Common.{◌≡◌, subst}
use Rattle.std.specs.Prelude.{IfOk}
use Rattle.scan_planner.specs.Planned.{PlannedBoard}
use Rattle.commands.specs.Summary.{counts_line, summary_text}
use Rattle.commands.proofs.board_summary.classed_counts.Goals as goal

pub returns : goal.returns
returns c =
    subst
    (λ (p : PlannedBoard). IfOk c.planned_counts-counts.result
    (λ counts. counts_line counts.devices counts.nets counts.covered counts.passes
    counts.scans counts.bytes ≡ summary_text p.board)) c.of.ensures
    c.planned_counts-counts.ensures
